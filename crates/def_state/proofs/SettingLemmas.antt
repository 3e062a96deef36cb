-- Entries in order with one more that is set among them.
use Rattle.std.proofs.Common.{◌≡◌, ◌<◌, ◌+◌, ℕ, Bool, true, false, if◌then◌else◌, cond, ◌||◌, inl, inr, List, [], ◌∷◌, length, Option, Some, refl, sym, ap, ◌∙◌, arith, true≢false}
use Rattle.std.specs.List.{list_any, list_all, find}
use Rattle.std.specs.Ordering.{is_lt, nat_cmp, ordering_then, ordering_reverse, match_ordering}
use Rattle.std.specs.declared.cmp.Ordering.{Ordering}
use Rattle.std.specs.declared.cmp.Ordering.TheVariants.{Less, Equal, Greater}
use Rattle.std.proofs.lemmas.Bool.{and_parts, and_from, or_left, cases_Bool, false_from_ne_true}
use Rattle.std.proofs.lemmas.Cmp.{tied_itself, nat_list_cmp_total, nat_cmp_total, ranked}
use Rattle.strat_base.specs.Order.{key_cmp, entry_cmp}
use Rattle.strat_base.specs.Entries.{Entry, is_at, is_ascending}
use Rattle.strat_base.specs.Tree.{Parents, IsTree}
use Rattle.def_state.specs.Maps.{map_over}
use Rattle.def_state.specs.Setting.{set_entry}
use Rattle.strat_base.proofs.ListFacts.{Among, any_among, all_at, all_from}
use Rattle.strat_base.proofs.EntryLemmas.{is_at_key, is_at_version, at_key_version}
use Rattle.def_state.proofs.MapLemmas.{same_key}
use Rattle.def_state.proofs.ValueLemmas.{maps_same, value_found}

-- the order of two entries: by key, and then the greater version first
abbrev pub order : Entry → Entry → Ordering
order e d = entry_cmp e.key e.version d.key d.version

-- entries of one key and version tie
pub order_itself : (e d : Entry) → e.key ≡ d.key → e.version ≡ d.version → order e d ≡ Equal
order_itself e d k v =
    ap (λ (x : List ℕ). entry_cmp x e.version d.key d.version) k ∙ ap (λ (x : ℕ). entry_cmp d.key x d.key d.version) v
    ∙ ap (λ (o : Ordering). ordering_then o (nat_cmp d.version d.version)) (tied_itself nat_list_cmp_total d.key)
    ∙ tied_itself nat_cmp_total d.version

-- entries that tie have one key and version
pub order_tied : (e d : Entry) → order e d ≡ Equal → (e.key ≡ d.key) × (e.version ≡ d.version)
order_tied e d tie = go (key_cmp e.key d.key) refl tie
  where
    go : (o : Ordering) → key_cmp e.key d.key ≡ o → ordering_then o (nat_cmp d.version e.version) ≡ Equal → (e.key ≡ d.key) × (e.version ≡ d.version)
    go Less is h = absurd (cc)
    go Equal is h = let v : d.version ≡ e.version = ranked d.version e.version Equal (sym h) in (same_key e.key d.key is, sym v)
    go Greater is h = absurd (cc)

-- the other way round
pub order_turned : (e d : Entry) → order e d ≡ Greater → order d e ≡ Less
order_turned e d above = go (key_cmp e.key d.key) refl above
  where
    go : (o : Ordering) → key_cmp e.key d.key ≡ o → ordering_then o (nat_cmp d.version e.version) ≡ Greater → order d e ≡ Less
    go Less is h = absurd (cc)
    go Equal is h =
        let k : key_cmp d.key e.key ≡ Equal = nat_list_cmp_total.antisymm d.key e.key ∙ ap ordering_reverse is in
        ap (λ (o : Ordering). ordering_then o (nat_cmp e.version d.version)) k ∙ nat_cmp_total.antisymm e.version d.version ∙ ap ordering_reverse h
    go Greater is h =
        let k : key_cmp d.key e.key ≡ Less = nat_list_cmp_total.antisymm d.key e.key ∙ ap ordering_reverse is in
        ap (λ (o : Ordering). ordering_then o (nat_cmp e.version d.version)) k

pub order_back : (e d : Entry) → order e d ≡ Less → order d e ≡ Greater
order_back e d less = go (key_cmp e.key d.key) refl less
  where
    go : (o : Ordering) → key_cmp e.key d.key ≡ o → ordering_then o (nat_cmp d.version e.version) ≡ Less → order d e ≡ Greater
    go Less is h =
        let k : key_cmp d.key e.key ≡ Greater = nat_list_cmp_total.antisymm d.key e.key ∙ ap ordering_reverse is in
        ap (λ (o : Ordering). ordering_then o (nat_cmp e.version d.version)) k
    go Equal is h =
        let k : key_cmp d.key e.key ≡ Equal = nat_list_cmp_total.antisymm d.key e.key ∙ ap ordering_reverse is in
        ap (λ (o : Ordering). ordering_then o (nat_cmp e.version d.version)) k ∙ nat_cmp_total.antisymm e.version d.version ∙ ap ordering_reverse h
    go Greater is h = absurd (cc)

pub order_trans : (e d f : Entry) → order e d ≡ Less → order d f ≡ Less → order e f ≡ Less
order_trans e d f first second = go (key_cmp e.key d.key) (key_cmp d.key f.key) refl refl first second
  where
    go : (o p : Ordering) → key_cmp e.key d.key ≡ o → key_cmp d.key f.key ≡ p → ordering_then o (nat_cmp d.version e.version) ≡ Less → ordering_then p (nat_cmp f.version d.version) ≡ Less → order e f ≡ Less
    go Less Less is next a b = ap (λ (o : Ordering). ordering_then o (nat_cmp f.version e.version)) (nat_list_cmp_total.trans e.key d.key f.key is next)
    go Less Equal is next a b =
        let k : d.key ≡ f.key = same_key d.key f.key next in
        ap (λ (o : Ordering). ordering_then o (nat_cmp f.version e.version)) (ap (key_cmp e.key) (sym k) ∙ is)
    go Less Greater is next a b = absurd (cc)
    go Equal Less is next a b =
        let k : e.key ≡ d.key = same_key e.key d.key is in
        ap (λ (o : Ordering). ordering_then o (nat_cmp f.version e.version)) (ap (λ (x : List ℕ). key_cmp x f.key) k ∙ next)
    go Equal Equal is next a b =
        let k : key_cmp e.key f.key ≡ Equal = ap (λ (x : List ℕ). key_cmp x f.key) (same_key e.key d.key is) ∙ next in
        ap (λ (o : Ordering). ordering_then o (nat_cmp f.version e.version)) k ∙ nat_cmp_total.trans f.version d.version e.version b a
    go Equal Greater is next a b = absurd (cc)
    go Greater p is next a b = absurd (cc)

is_less : (o : Ordering) → is_lt o ≡ true → o ≡ Less
is_less Less h = refl
is_less Equal h = absurd (true≢false (sym h))
is_less Greater h = absurd (true≢false (sym h))

-- entries of one key that ascend have descending versions
pub order_version : (e d : Entry) → order e d ≡ Less → e.key ≡ d.key → d.version < e.version
order_version e d less k =
    ranked d.version e.version Less
    (sym (ap (λ (o : Ordering). ordering_then o (nat_cmp d.version e.version)) (sym (ap (λ (x : List ℕ). key_cmp x d.key) k ∙ tied_itself nat_list_cmp_total d.key)) ∙ less))

-- an entry stands before all of these
abbrev pub stands_first : Entry → List Entry → Bool
stands_first e entries = list_all (λ later. is_lt (entry_cmp e.key e.version later.key later.version)) entries

pub first_of : (e d : Entry) (entries : List Entry) → stands_first e entries ≡ true → Among d entries → order e d ≡ Less
first_of e d entries first among = is_less (order e d) (all_at (λ later. is_lt (order e later)) d entries first among)

first_before : (e d : Entry) (entries : List Entry) → order e d ≡ Less → stands_first d entries ≡ true → stands_first e entries ≡ true
first_before e d entries less first =
    all_from (λ later. is_lt (order e later)) entries (λ f among. ap is_lt (order_trans e d f less (first_of d f entries first among)))

-- what stands before an entry and before all others stands before all after it is set
first_set : (x e : Entry) (entries : List Entry) → order x e ≡ Less → stands_first x entries ≡ true → stands_first x (set_entry e entries) ≡ true
first_set x e [] less first = and_from (is_lt (order x e)) true (ap is_lt less) refl
first_set x e (d ∷ entries) less first = go (first_set x e entries less parts.1) (order e d)
  where
    parts : (is_lt (order x d) ≡ true) × (stands_first x entries ≡ true)
    parts = and_parts (is_lt (order x d)) (stands_first x entries) first

    go : stands_first x (set_entry e entries) ≡ true → (o : Ordering) → stands_first x (match_ordering o (e ∷ d ∷ entries) (e ∷ entries) (d ∷ set_entry e entries)) ≡ true
    go rest Less = and_from (is_lt (order x e)) (stands_first x (d ∷ entries)) (ap is_lt less) first
    go rest Equal = and_from (is_lt (order x e)) (stands_first x entries) (ap is_lt less) parts.1
    go rest Greater = and_from (is_lt (order x d)) (stands_first x (set_entry e entries)) parts.0 rest

-- entries in order are in order after one is set
pub set_ascending : (e : Entry) (entries : List Entry) → is_ascending entries ≡ true → is_ascending (set_entry e entries) ≡ true
set_ascending e [] up = refl
set_ascending e (d ∷ entries) up = go (set_ascending e entries parts.1) (order e d) refl
  where
    parts : (stands_first d entries ≡ true) × (is_ascending entries ≡ true)
    parts = and_parts (stands_first d entries) (is_ascending entries) up

    go : is_ascending (set_entry e entries) ≡ true → (o : Ordering) → order e d ≡ o → is_ascending (match_ordering o (e ∷ d ∷ entries) (e ∷ entries) (d ∷ set_entry e entries)) ≡ true
    go rest Less is =
        and_from (stands_first e (d ∷ entries)) (is_ascending (d ∷ entries))
        (and_from (is_lt (order e d)) (stands_first e entries) (ap is_lt is) (first_before e d entries is parts.0)) up
    go rest Equal is =
        let tied = order_tied e d is in
        and_from (stands_first e entries) (is_ascending entries)
        (ap (λ (k : List ℕ). list_all (λ later. is_lt (entry_cmp k e.version later.key later.version)) entries) tied.0
        ∙ ap (λ (v : ℕ). list_all (λ later. is_lt (entry_cmp d.key v later.key later.version)) entries) tied.1 ∙ parts.0) parts.1
    go rest Greater is =
        and_from (stands_first d (set_entry e entries)) (is_ascending (set_entry e entries))
        (first_set d e entries (order_turned e d is) parts.0) rest

-- each key and version is found as if the entry stood in front
pub find_set : (key : List ℕ) (u : ℕ) (e : Entry) (entries : List Entry) → find (is_at key u) (set_entry e entries) ≡ find (is_at key u) (e ∷ entries)
find_set key u e [] = refl
find_set key u e (d ∷ entries) = go (find_set key u e entries) (order e d) refl
  where
    -- both stand at the key and the version, and so tie
    tie : is_at key u e ≡ true → is_at key u d ≡ true → order e d ≡ Equal
    tie one other = order_itself e d (is_at_key key u e one ∙ sym (is_at_key key u d other)) (is_at_version key u e one ∙ sym (is_at_version key u d other))

    go : find (is_at key u) (set_entry e entries) ≡ find (is_at key u) (e ∷ entries) → (o : Ordering) → order e d ≡ o → find (is_at key u) (match_ordering o (e ∷ d ∷ entries) (e ∷ entries) (d ∷ set_entry e entries)) ≡ find (is_at key u) (e ∷ d ∷ entries)
    go rest Less is = refl
    go rest Equal is =
        let tied = order_tied e d is in
        elim (is_at key u e) as (λ b. is_at key u e ≡ b → cond b (Some e) (find (is_at key u) entries) ≡ cond b (Some e) (find (is_at key u) (d ∷ entries))) [
          | true ↦ λ here. refl
          | false ↦ λ there. elim (cases_Bool (is_at key u d)) [
            | inl yes' ↦ absurd (true≢false (sym (at_key_version key u e (tied.0 ∙ is_at_key key u d yes') (tied.1 ∙ is_at_version key u d yes')) ∙ there))
            | inr no' ↦ sym (ap (λ (b : Bool). cond b (Some d) (find (is_at key u) entries)) no')
          ]
        ] refl
    go rest Greater is =
        ap (λ (o : Option Entry). cond (is_at key u d) (Some d) o) rest
        ∙ elim (is_at key u e) as (λ b. is_at key u e ≡ b → cond (is_at key u d) (Some d) (cond b (Some e) (find (is_at key u) entries)) ≡ cond b (Some e) (cond (is_at key u d) (Some d) (find (is_at key u) entries))) [
          | false ↦ λ there. refl
          | true ↦ λ here. elim (cases_Bool (is_at key u d)) [
            | inl yes' ↦ let both : Equal ≡ Greater = sym (tie here yes') ∙ is in absurd (cc)
            | inr no' ↦ ap (λ (b : Bool). cond b (Some d) (Some e)) no'
          ]
        ] refl

-- what stands before all of these has a key and version that none of them has
first_alone : (e : Entry) (entries : List Entry) → stands_first e entries ≡ true → list_any (is_at e.key e.version) entries ≡ false
first_alone e entries first = false_from_ne_true (list_any (is_at e.key e.version) entries) (λ any.
    let found = any_among (is_at e.key e.version) entries any in
    let less = first_of e found.0 entries first found.1 in
    let tie = order_itself e found.0 (sym (is_at_key e.key e.version found.0 found.2)) (sym (is_at_version e.key e.version found.0 found.2)) in
    let both : Less ≡ Equal = sym less ∙ tie in cc)

-- an entry of a key and version that stand there already takes that one's place, and any other is one more
pub length_set : (e : Entry) (entries : List Entry) → is_ascending entries ≡ true
    → length (set_entry e entries) ≡ length entries + (if list_any (is_at e.key e.version) entries then 0 else 1)
length_set e [] up = refl
length_set e (d ∷ entries) up = go (length_set e entries parts.1) (order e d) refl
  where
    parts : (stands_first d entries ≡ true) × (is_ascending entries ≡ true)
    parts = and_parts (stands_first d entries) (is_ascending entries) up

    more : Bool → ℕ
    more b = length (d ∷ entries) + (if b then 0 else 1)

    go : length (set_entry e entries) ≡ length entries + (if list_any (is_at e.key e.version) entries then 0 else 1) → (o : Ordering) → order e d ≡ o → length (match_ordering o (e ∷ d ∷ entries) (e ∷ entries) (d ∷ set_entry e entries)) ≡ length (d ∷ entries) + (if list_any (is_at e.key e.version) (d ∷ entries) then 0 else 1)
    go rest Less is =
        let first = and_from (is_lt (order e d)) (stands_first e entries) (ap is_lt is) (first_before e d entries is parts.0) in
        let none : more (list_any (is_at e.key e.version) (d ∷ entries)) ≡ more false = ap more (first_alone e (d ∷ entries) first) in
        let one : length (e ∷ d ∷ entries) ≡ more false = omega arith in
        one ∙ sym none
    go rest Equal is =
        let tied = order_tied e d is in
        let here = or_left (is_at e.key e.version d) (list_any (is_at e.key e.version) entries) (at_key_version e.key e.version d (sym tied.0) (sym tied.1)) in
        let same : more (list_any (is_at e.key e.version) (d ∷ entries)) ≡ more true = ap more here in
        let one : length (e ∷ entries) ≡ more true = omega arith in
        one ∙ sym same
    go rest Greater is =
        let apart : is_at e.key e.version d ≡ false = false_from_ne_true (is_at e.key e.version d) (λ at.
        let tie = order_itself e d (sym (is_at_key e.key e.version d at)) (sym (is_at_version e.key e.version d at)) in
        let both : Equal ≡ Greater = sym tie ∙ is in cc) in
        let same : more (list_any (is_at e.key e.version) (d ∷ entries)) ≡ more (list_any (is_at e.key e.version) entries) = ap (λ (b : Bool). more (b || list_any (is_at e.key e.version) entries)) apart in
        let one : length (d ∷ set_entry e entries) ≡ more (list_any (is_at e.key e.version) entries) = omega (arith, rest) in
        one ∙ sym same

-- every entry is the one that was set or was there
pub set_among : (e : Entry) (entries : List Entry) (d : Entry) → Among d (set_entry e entries) → Among d (e ∷ entries)
set_among e [] d among = among
set_among e (f ∷ entries) d among = go (set_among e entries d) (order e f) among
  where
    go : (Among d (set_entry e entries) → Among d (e ∷ entries)) → (o : Ordering) → Among d (match_ordering o (e ∷ f ∷ entries) (e ∷ entries) (f ∷ set_entry e entries)) → Among d (e ∷ f ∷ entries)
    go rest Less a = a
    go rest Equal (inl here) = inl here
    go rest Equal (inr there) = inr (inr there)
    go rest Greater (inl here) = inr (inl here)
    go rest Greater (inr there) = elim (rest there) [ inl same ↦ inl same | inr other ↦ inr (inr other) ]

-- the maps are those of the entry in front
pub map_set : (parents : Parents) → IsTree parents → (e : Entry) (entries : List Entry) (v : ℕ) → map_over parents (set_entry e entries) v ≡ map_over parents (e ∷ entries) v
map_set parents tree e entries v =
    maps_same parents parents tree tree (e ∷ entries) (set_entry e entries) v v
    (value_found parents (e ∷ entries) (set_entry e entries) (λ key u. find_set key u e entries) v)
