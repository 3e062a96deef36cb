-- Lists in which each key and version is found alike.
use Rattle.std.proofs.Common.{◌≡◌, ◌≤◌, ℕ, true, not, inl, inr, List, [], ◌∷◌, ◌++◌, length, Option, Some, refl, sym, ap, ◌∙◌, subst, arith, true≢false, length-append}
use Rattle.std.specs.List.{list_any, find}
use Rattle.std.specs.Option.{option_or}
use Rattle.std.proofs.lemmas.Bool.{and_parts, not-true}
use Rattle.strat_base.specs.Tree.{Parents, path}
use Rattle.strat_base.specs.Entries.{Entry, is_at, is_single, is_ascending}
use Rattle.def_state.specs.Live.{deciding}
use Rattle.strat_base.proofs.ListFacts.{Among, any_from, find_some, find_none, among_split, among_left, among_right}
use Rattle.strat_base.proofs.EntryLemmas.{is_at_key, is_at_version, at_key_version, single_same}
use Rattle.strat_base.proofs.ResultFacts.{option_cases}
use Rattle.def_state.proofs.ReadingLemmas.{find-append}
use Rattle.def_state.proofs.LevelLemmas.{ascending_single}
use Rattle.def_state.proofs.ValueLemmas.{first_same}
use Rattle.def_state.proofs.SettingLemmas.{order_itself, order_back, stands_first, first_of}
use Rattle.def_promote.specs.Union.{IsUnion}

-- they decide alike
pub deciding_finds : (parents : Parents) (xs ys : List Entry) (key : List ℕ) → ((u : ℕ) → find (is_at key u) xs ≡ find (is_at key u) ys) → (v : ℕ) → deciding parents xs key v ≡ deciding parents ys key v
deciding_finds parents xs ys key same v = first_same (λ u. find (is_at key u) xs) (λ u. find (is_at key u) ys) (path parents v) (λ u among. same u)

-- and still do before the same others
pub find_before : (xs ys rest : List Entry) (key : List ℕ) (u : ℕ) → find (is_at key u) xs ≡ find (is_at key u) ys → find (is_at key u) (xs ++ rest) ≡ find (is_at key u) (ys ++ rest)
find_before xs ys rest key u same =
    find-append (is_at key u) xs rest ∙ ap (λ (o : Option Entry). option_or o (find (is_at key u) rest)) same ∙ sym (find-append (is_at key u) ys rest)

-- an entry is found at its key and version where there is no other
pub find_single : (entries : List Entry) (e : Entry) → is_single entries ≡ true → Among e entries → find (is_at e.key e.version) entries ≡ Some e
find_single entries e single among =
    elim (option_cases (find (is_at e.key e.version) entries)) [
      | inl none ↦ absurd (true≢false (sym (at_key_version e.key e.version e refl refl) ∙ find_none (is_at e.key e.version) entries e none among))
      | inr found ↦
          let there = find_some (is_at e.key e.version) entries found.0 found.1 in
          let same = single_same entries e found.0 single among there.0 there.1 in
          found.1 ∙ ap (λ (x : Entry). Some x) (sym same)
    ]

pub find_at : (entries : List Entry) (key : List ℕ) (u : ℕ) (e : Entry) → is_single entries ≡ true → Among e entries → is_at key u e ≡ true → find (is_at key u) entries ≡ Some e
find_at entries key u e single among at =
    (λ i. find (is_at (sym (is_at_key key u e at) i) (sym (is_at_version key u e at) i)) entries) ∙ find_single entries e single among

-- the same entries in any order are found alike
pub find_alike : (xs ys : List Entry) → is_single xs ≡ true → is_single ys ≡ true → ((e : Entry) → Among e xs → Among e ys) → ((e : Entry) → Among e ys → Among e xs)
    → (key : List ℕ) (u : ℕ) → find (is_at key u) xs ≡ find (is_at key u) ys
find_alike xs ys one two there back key u =
    elim (option_cases (find (is_at key u) xs)) [
      | inl none ↦
          elim (option_cases (find (is_at key u) ys)) [
            | inl nothing ↦ none ∙ sym nothing
            | inr found ↦
                let e = find_some (is_at key u) ys found.0 found.1 in
                absurd (true≢false (sym e.1 ∙ find_none (is_at key u) xs found.0 none (back found.0 e.0)))
          ]
      | inr found ↦
          let e = find_some (is_at key u) xs found.0 found.1 in
          found.1 ∙ sym (find_at ys key u found.0 two (there found.0 e.0) e.1)
    ]

-- what is in the one is in the other
pub found_among : (xs ys : List Entry) → ((key : List ℕ) (u : ℕ) → find (is_at key u) xs ≡ find (is_at key u) ys) → is_single xs ≡ true → (e : Entry) → Among e xs → Among e ys
found_among xs ys same single e among =
    (find_some (is_at e.key e.version) ys e (sym (same e.key e.version) ∙ find_single xs e single among)).0

-- entries in order are their set

order_apart : (e : Entry) (entries : List Entry) → stands_first e entries ≡ true → Among e entries → ⊥
order_apart e entries first among = let less = first_of e e entries first among in let tie = order_itself e e refl refl in absurd (cc)

pub ascending_unique : (xs ys : List Entry) → is_ascending xs ≡ true → is_ascending ys ≡ true → ((e : Entry) → Among e xs → Among e ys) → ((e : Entry) → Among e ys → Among e xs) → xs ≡ ys
ascending_unique [] [] one two there back = refl
ascending_unique [] (y ∷ ys) one two there back = absurd (back y (inl refl))
ascending_unique (x ∷ xs) [] one two there back = absurd (there x (inl refl))
ascending_unique (x ∷ xs) (y ∷ ys) one two there back =
    let left = and_parts (stands_first x xs) (is_ascending xs) one in
    let right = and_parts (stands_first y ys) (is_ascending ys) two in
    let same = heads x y xs ys left.0 right.0 (there x (inl refl)) (back y (inl refl)) in
    λ i. same i ∷ ascending_unique xs ys left.1 right.1
    (λ e among. tails x y xs ys same left.0 e among (there e (inr among)))
    (λ e among. tails y x ys xs (sym same) right.0 e among (back e (inr among))) i
  where
    heads : (a b : Entry) (bs cs : List Entry) → stands_first a bs ≡ true → stands_first b cs ≡ true → Among a (b ∷ cs) → Among b (a ∷ bs) → a ≡ b
    heads a b bs cs first second (inl here) other = here
    heads a b bs cs first second (inr in_cs) (inl here) = sym here
    heads a b bs cs first second (inr in_cs) (inr in_bs) =
        let less = first_of b a cs second in_cs in
        let more = order_back a b (first_of a b bs first in_bs) in
        absurd (cc)

    tails : (a b : Entry) (bs cs : List Entry) → a ≡ b → stands_first a bs ≡ true → (e : Entry) → Among e bs → Among e (b ∷ cs) → Among e cs
    tails a b bs cs same first e among (inl here) = absurd (order_apart a bs first (subst (λ (x : Entry). Among x bs) (here ∙ sym same) among))
    tails a b bs cs same first e among (inr in_cs) = in_cs

-- there is one union
pub one_union : (others xs ys : List Entry) → IsUnion others xs → IsUnion others ys → xs ≡ ys
one_union others xs ys one two =
    ascending_unique xs ys one.ascending two.ascending
    (found_among xs ys (λ key u. one.first key u ∙ sym (two.first key u)) (ascending_single xs one.ascending))
    (found_among ys xs (λ key u. two.first key u ∙ sym (one.first key u)) (ascending_single ys two.ascending))

-- entries with one of each key and version are no more than any that have them all

split_at : (x : Entry) (ys : List Entry) → Among x ys → (us : List Entry) × (ws : List Entry) × (ys ≡ us ++ x ∷ ws)
split_at x [] among = absurd among
split_at x (y ∷ ys) (inl here) = ([], ys, ap (λ (z : Entry). z ∷ ys) (sym here))
split_at x (y ∷ ys) (inr there) = let found = split_at x ys there in (y ∷ found.0, found.1, ap (λ (zs : List Entry). y ∷ zs) found.2)

pub single_fits : (xs ys : List Entry) → is_single xs ≡ true → ((e : Entry) → Among e xs → Among e ys) → length xs ≤ length ys
single_fits [] ys single inside = omega arith
single_fits (x ∷ xs) ys single inside =
    let parts = and_parts (not (list_any (is_at x.key x.version) xs)) (is_single xs) single in
    let found = split_at x ys (inside x (inl refl)) in
    let rest = single_fits xs (found.0 ++ found.1) parts.1 (λ e among.
    elim (among_split found.0 (x ∷ found.1) e (subst (λ (zs : List Entry). Among e zs) found.2 (inside e (inr among)))) [
      | inl left ↦ among_left found.0 found.1 e left
      | inr right ↦
          elim right [
            | inl here ↦
                absurd (true≢false (sym (any_from (is_at x.key x.version) e xs among (at_key_version x.key x.version e (ap (λ (z : Entry). z.key) here) (ap (λ (z : Entry). z.version) here)))
                ∙ not-true (list_any (is_at x.key x.version) xs) parts.0))
            | inr behind ↦ among_right found.0 found.1 e behind
          ]
    ]) in
    let size = ap (λ (zs : List Entry). length zs) found.2 in
    let whole = length-append found.0 (x ∷ found.1) in
    let less = length-append found.0 found.1 in
    omega (arith, rest, size, whole, less)
