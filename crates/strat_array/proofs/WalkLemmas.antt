-- The first entry of a key at a version or one of its ancestors is the one that is live.
use Rattle.std.proofs.Common.{◌≡◌, ◌<◌, ◌≤◌, ◌+◌, ℕ, zero, suc, Bool, true, false, cond, ◌&&◌, get_or, inl, inr, ◌⊎◌, List, [], ◌∷◌, ◌++◌, length, drop, Some, None, refl, sym, ap, ◌∙◌, subst, arith, true≢false}
use Rattle.std.specs.List.{list_all, find, slice_get}
use Rattle.std.specs.Ordering.{is_lt, ordering_then, nat_cmp}
use Rattle.std.specs.declared.cmp.Ordering.{Ordering}
use Rattle.std.specs.declared.cmp.Ordering.TheVariants.{Less, Equal, Greater}
use Rattle.std.proofs.lemmas.Bool.{and_parts, and_from, cases_lt, cases_Bool, not-true}
use Rattle.std.proofs.lemmas.List.{drop_all, drop_more}
use Rattle.strat_base.specs.Order.{key_cmp}
use Rattle.strat_base.specs.Tree.{Parents, is_ancestor, IsTree}
use Rattle.strat_base.specs.Entries.{Entry, is_of, is_at, is_ascending}
use Rattle.strat_base.proofs.ListFacts.{Among, find_some, find_none}
use Rattle.strat_base.proofs.EntryLemmas.{same_bytes, is_of_key, at_key_version}
use Rattle.strat_base.proofs.ResultFacts.{option_cases}
use Rattle.strat_base.proofs.TreeLemmas.{path_le, ancestor_among, among_ancestor}
use Rattle.def_state.specs.Live.{deciding}
use Rattle.def_state.specs.Reading.{live_of}
use Rattle.def_state.proofs.LiveLemmas.{deciding_some, deciding_found, deciding_live}
use Rattle.def_state.proofs.MapLemmas.{same_key}
use Rattle.def_state.proofs.LevelLemmas.{ascending_single}
use Rattle.def_state.proofs.SettingLemmas.{order, stands_first, first_of, order_version}
use Rattle.strat_array.specs.Left.{all_in, left_at, is_from}
use Rattle.strat_array.specs.Walk.{is_seen_at, Going}

-- of entries in order the first that passes is one, or stands before it
first_before : (p : Entry → Bool) (entries : List Entry) (e d : Entry) → is_ascending entries ≡ true → find p entries ≡ Some e → Among d entries → p d ≡ true → (d ≡ e) ⊎ (order e d ≡ Less)
first_before p [] e d up is among passes = absurd among
first_before p (x ∷ entries) e d up is among passes =
    let parts = and_parts (stands_first x entries) (is_ascending entries) up in
    elim (p x) as (λ b. p x ≡ b → (d ≡ e) ⊎ (order e d ≡ Less)) [
      | true ↦ λ t.
          let same : x ≡ e = cc in
          elim among [
            | inl here ↦ inl (here ∙ same)
            | inr there ↦ inr (subst (λ (y : Entry). order y d ≡ Less) same (first_of x d entries parts.0 there))
          ]
      | false ↦ λ t.
          let rest : find p entries ≡ Some e = cc in
          elim among [
            | inl here ↦ absurd (true≢false (sym passes ∙ ap p here ∙ t))
            | inr there ↦ first_before p entries e d parts.1 rest there passes
          ]
    ] refl

module _ (parents : Parents) (tree : IsTree parents) (entries : List Entry) (up : is_ascending entries ≡ true) (key : List ℕ) (v : ℕ) where
  pub first_is_live : find (is_seen_at parents key v) entries ≡ live_of parents entries v key
  first_is_live =
      let live_is = deciding_live parents tree entries key v (ascending_single entries up) in
      elim (option_cases (find (is_seen_at parents key v) entries)) [
        | inl none ↦
            elim (option_cases (deciding parents entries key v)) [
              | inl nothing ↦ none ∙ sym nothing ∙ sym live_is
              | inr some ↦
                  let decides = deciding_some parents tree entries key v some.0 some.1 in
                  let seen = and_from (is_of key some.0) (is_ancestor parents some.0.version v)
                  (same_bytes some.0.key key decides.of_key) (among_ancestor parents tree some.0.version v decides.on_path) in
                  absurd (true≢false (sym seen ∙ find_none (is_seen_at parents key v) entries some.0 none decides.among))
            ]
        | inr found ↦
            let e = found.0 in
            let at = find_some (is_seen_at parents key v) entries e found.1 in
            let parts = and_parts (is_of key e) (is_ancestor parents e.version v) at.1 in
            let of = is_of_key key e parts.0 in
            let some = deciding_found parents tree entries key v e at.0 of (ancestor_among parents tree e.version v parts.1) in
            let d = some.0 in
            let decides = deciding_some parents tree entries key v d some.1 in
            let seen = and_from (is_of key d) (is_ancestor parents d.version v)
            (same_bytes d.key key decides.of_key) (among_ancestor parents tree d.version v decides.on_path) in
            elim (first_before (is_seen_at parents key v) entries e d up found.1 decides.among seen) [
              | inl same ↦ found.1 ∙ ap (λ (x : Entry). Some x) (sym same) ∙ sym some.1 ∙ sym live_is
              | inr less ↦
                  let lt : d.version < e.version = order_version e d less (of ∙ sym decides.of_key) in
                  let none = decides.nearest e.version (ancestor_among parents tree e.version v parts.1) lt in
                  absurd (true≢false (sym (at_key_version key e.version e of refl) ∙ find_none (is_at key e.version) entries e none at.0))
            ]
      ]

-- what is left at a place of a block
module _ (lists : List (List Entry)) where
  got : (block : ℕ) (entries : List Entry) → slice_get lists block ≡ Some entries → get_or lists block [] ≡ entries
  got block entries is = go lists block is
    where
      go : (xs : List (List Entry)) (i : ℕ) → slice_get xs i ≡ Some entries → get_or xs i [] ≡ entries
      go [] i e = absurd (cc)
      go (x ∷ xs) zero e = cc
      go (x ∷ xs) (suc i) e = go xs i e

  pub left_here : (block index : ℕ) (entries : List Entry) (d : Entry) → slice_get lists block ≡ Some entries → index < length entries → left_at lists block index ≡ get_or entries index d ∷ left_at lists block (index + 1)
  left_here block index entries d is lt =
      let e = got block entries is in
      ap (λ (x : List Entry). drop index x ++ all_in (drop (block + 1) lists)) e
      ∙ ap (λ (x : List Entry). x ++ all_in (drop (block + 1) lists)) (drop_more entries index d lt)
      ∙ ap (λ (x : List Entry). get_or entries index d ∷ (drop (index + 1) x ++ all_in (drop (block + 1) lists))) (sym e)

  past : (xs : List (List Entry)) (i : ℕ) → all_in (drop i xs) ≡ get_or xs i [] ++ all_in (drop (i + 1) xs)
  past xs i = elim (cases_lt i (length xs)) [
    | inl lt ↦ ap all_in (drop_more xs i [] lt)
    | inr le ↦ ap all_in (drop_all i xs le) ∙ sym (λ j. beyond xs i le j ++ all_in (drop_all (i + 1) xs (omega arith) j))
  ]
    where
      beyond : (ys : List (List Entry)) (k : ℕ) → length ys ≤ k → get_or ys k [] ≡ []
      beyond [] k le = refl
      beyond (y ∷ ys) zero le = absurd (omega arith)
      beyond (y ∷ ys) (suc k) le = beyond ys k (omega arith)

  -- past a block's end the next block is left
  pub left_past : (block index : ℕ) (entries : List Entry) → slice_get lists block ≡ Some entries → length entries ≤ index → left_at lists block index ≡ left_at lists (block + 1) 0
  left_past block index entries is le =
      ap (λ (x : List Entry). drop index x ++ all_in (drop (block + 1) lists)) (got block entries is)
      ∙ ap (λ (x : List Entry). x ++ all_in (drop (block + 1) lists)) (drop_all index entries le)
      ∙ past lists (block + 1)

  -- past the last block nothing is left
  pub left_end : (block index : ℕ) → slice_get lists block ≡ None → left_at lists block index ≡ []
  left_end block index none =
      let le = go lists block none in
      (λ j. drop index (nothing lists block none j) ++ all_in (drop_all (block + 1) lists (omega (arith, le)) j)) ∙ still index
    where
      go : (xs : List (List Entry)) (i : ℕ) → slice_get xs i ≡ None → length xs ≤ i
      go [] i e = omega arith
      go (x ∷ xs) zero e = absurd (cc)
      go (x ∷ xs) (suc i) e = let h = go xs i e in omega arith

      nothing : (xs : List (List Entry)) (i : ℕ) → slice_get xs i ≡ None → get_or xs i [] ≡ []
      nothing [] i e = refl
      nothing (x ∷ xs) zero e = absurd (cc)
      nothing (x ∷ xs) (suc i) e = nothing xs i e

      still : (n : ℕ) → drop n [] ++ all_in [] ≡ []
      still zero = refl
      still (suc n) = refl

-- the walk goes on past an entry that does not pass
pub goes_on : (p : Entry → Bool) (key : List ℕ) (first rest : List Entry) (e : Entry) → Going p key first (e ∷ rest) → p e ≡ false → Going p key first rest
goes_on p key first rest e going fails = record {
  found = going.found ∙ ap (λ (b : Bool). cond b (Some e) (find p rest)) fails;
  ascending = (and_parts (stands_first e rest) (is_ascending rest) going.ascending).1;
  from = (and_parts (is_from key e) (list_all (is_from key) rest) going.from).1;
}

-- an entry that passes is the first that does
pub found_here : (p : Entry → Bool) (key : List ℕ) (first rest : List Entry) (e : Entry) → Going p key first (e ∷ rest) → p e ≡ true → find p first ≡ Some e
found_here p key first rest e going passes = going.found ∙ ap (λ (b : Bool). cond b (Some e) (find p rest)) passes

-- an entry of another key ends the walk
pub stops : (parents : Parents) (key : List ℕ) (v : ℕ) (first rest : List Entry) (e : Entry) → Going (is_seen_at parents key v) key first (e ∷ rest) → is_of key e ≡ false → find (is_seen_at parents key v) first ≡ None
stops parents key v first rest e going other =
    going.found ∙ none (e ∷ rest) (λ d among. apart d among)
  where
    parts : (is_from key e ≡ true) × (list_all (is_from key) rest ≡ true)
    parts = and_parts (is_from key e) (list_all (is_from key) rest) going.from

    behind : (d : Entry) → order e d ≡ Less → is_of key d ≡ true → is_of key e ≡ true
    behind d less of = go (key_cmp e.key d.key) refl less
      where
        k : d.key ≡ key
        k = is_of_key key d of

        go : (o : Ordering) → key_cmp e.key d.key ≡ o → ordering_then o (nat_cmp d.version e.version) ≡ Less → is_of key e ≡ true
        go Less is h = absurd (true≢false (sym (ap is_lt (ap (key_cmp e.key) (sym k) ∙ is)) ∙ not-true (is_lt (key_cmp e.key key)) parts.0))
        go Equal is h = same_bytes e.key key (same_key e.key d.key is ∙ k)
        go Greater is h = absurd (cc)

    apart : (d : Entry) → Among d (e ∷ rest) → is_of key d ≡ false
    apart d (inl here) = ap (is_of key) here ∙ other
    apart d (inr there) = elim (cases_Bool (is_of key d)) [
      | inl of ↦ absurd (true≢false (sym (behind d (first_of e d rest (and_parts (stands_first e rest) (is_ascending rest) going.ascending).0 there) of) ∙ other))
      | inr off ↦ off
    ]

    none : (xs : List Entry) → ((d : Entry) → Among d xs → is_of key d ≡ false) → find (is_seen_at parents key v) xs ≡ None
    none [] each = refl
    none (x ∷ xs) each =
        ap (λ (b : Bool). cond (b && is_ancestor parents x.version v) (Some x) (find (is_seen_at parents key v) xs)) (each x (inl refl))
        ∙ none xs (λ d among. each d (inr among))

-- a version that is not there is no ancestor
pub past_is_off : (parents : Parents) → IsTree parents → (u v : ℕ) → v < length parents → length parents ≤ u → is_ancestor parents u v ≡ false
past_is_off parents tree u v known past' = elim (cases_Bool (is_ancestor parents u v)) [
  | inl on ↦ let le : u ≤ v = path_le parents tree u v (ancestor_among parents tree u v on) in absurd (omega arith)
  | inr off ↦ off
]
