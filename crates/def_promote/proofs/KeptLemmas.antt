-- Thinning leaves as many entries as the maps of living versions differ from those of their parents.
use Rattle.std.proofs.Common.{◌≡◌, ◌<◌, ℕ, Bool, true, false, cond, T, eqb, ◌&&◌, not, inl, inr, List, [], ◌∷◌, ◌++◌, length, filter, map, Option, Some, None, is_some, refl, sym, ap, ◌∙◌, subst, arith, true≢false, length-append}
use Rattle.std.specs.List.{list_any, list_all, find, range_with_len}
use Rattle.std.specs.Option.{option_or, option_and_then, option_map_or}
use Rattle.std.specs.Map.{lookup}
use Rattle.std.specs.FinMap.Entries.{below_all, is_sorted}
use Rattle.std.specs.Ordering.{is_lt, is_eq, nat_cmp, ordering_then}
use Rattle.std.specs.declared.cmp.Ordering.{Ordering}
use Rattle.std.specs.declared.cmp.Ordering.TheVariants.{Less, Equal, Greater}
use Rattle.std.proofs.lemmas.Bool.{and_parts, and_from, not-true, not_from_false, false_from_ne_true, eqb-true, eq-eqb}
use Rattle.std.proofs.lemmas.Cmp.{tied_itself, nat_list_cmp_total}
use Rattle.std.proofs.lemmas.List.{length-map}
use Rattle.strat_base.specs.Order.{key_cmp, entry_cmp}
use Rattle.strat_base.specs.Tree.{Parents, parent_of, IsTree}
use Rattle.strat_base.specs.Marks.{Marks, is_dropped, ArePruned}
use Rattle.strat_base.specs.Entries.{Entry, is_at, is_single, is_ascending, is_same_value, is_tagged}
use Rattle.def_state.specs.Live.{deciding}
use Rattle.def_state.specs.Maps.{value_over, map_over}
use Rattle.strat_base.proofs.ListFacts.{Among, find_some, any_among, any_from, all_from, among_left, among_right, among_split, among_filter, filter_among, among_range}
use Rattle.strat_base.proofs.EntryLemmas.{is_at_key, is_at_version, at_key_version}
use Rattle.strat_base.proofs.ResultFacts.{option_cases}
use Rattle.def_state.proofs.LevelLemmas.{ascending_single, among_tagged}
use Rattle.def_state.proofs.LiveLemmas.{deciding_root, deciding_up, single_filter}
use Rattle.def_state.proofs.MapLemmas.{InOrder, value_in, value_in-lookup, same_key}
use Rattle.def_state.proofs.MarkLemmas.{parent_living}
use Rattle.def_state.proofs.ValueLemmas.{map_order, map_value}
use Rattle.def_split.specs.Groups.{own_of}
use Rattle.def_split.proofs.ListLemmas.{filter_every, filter_none, map_among, among_map, distinct_range}
use Rattle.def_split.proofs.CountedLemmas.{sum_same, sum_own}
use Rattle.def_promote.specs.Thin.{value_above, is_telling, thinned}
use Rattle.def_promote.specs.Kept.{Map, set_in, gone_in, differences, map_above, kept_over}
use Rattle.def_promote.proofs.UnionLemmas.{find_at, single_fits}
use Rattle.def_promote.proofs.DropLemmas.{value_of}
use Rattle.def_promote.proofs.ThinLemmas.{value_same, telling_parts, telling_from, thin_living}

-- maps in the order of their keys

is_equal : (o : Ordering) → is_eq o ≡ true → o ≡ Equal
is_equal Less e = absurd (true≢false (sym e))
is_equal Equal e = refl
is_equal Greater e = absurd (true≢false (sym e))

is_less : (o : Ordering) → T (is_lt o) → o ≡ Less
is_less Less h = refl
is_less Equal h = absurd h
is_less Greater h = absurd h

and_first : (a b : Bool) → T (a && b) → T a
and_first true b h = tt
and_first false b h = h

and_second : (a b : Bool) → T (a && b) → T b
and_second true b h = h
and_second false b h = absurd h

none_of : (o : Option (List ℕ)) → is_some o ≡ false → o ≡ None
none_of None is = refl
none_of (Some x) is = absurd (true≢false is)

-- a value that is found stands there
in_map : (pairs : Map) (q b : List ℕ) → value_in q pairs ≡ Some b → Among (q, b) pairs
in_map [] q b is = absurd (cc)
in_map (e ∷ es) q b is =
    elim (is_eq (key_cmp q e.0)) as (λ t. is_eq (key_cmp q e.0) ≡ t → cond t (Some e.1) (value_in q es) ≡ Some b → Among (q, b) (e ∷ es)) [
      | true ↦ λ hit found.
          let k : q ≡ e.0 = same_key q e.0 (is_equal (key_cmp q e.0) hit) in
          let v : b ≡ e.1 = cc in
          inl (λ i. (k i, v i))
      | false ↦ λ miss found. inr (in_map es q b found)
    ] refl is

-- the keys behind one are greater
less_at : (x : List ℕ) (es : Map) (pair : List ℕ × List ℕ) → T (below_all key_cmp x es) → Among pair es → key_cmp x pair.0 ≡ Less
less_at x [] pair h among = absurd among
less_at x (e ∷ es) pair h (inl here) = ap (λ (p : List ℕ × List ℕ). key_cmp x p.0) here ∙ is_less (key_cmp x e.0) (and_first (is_lt (key_cmp x e.0)) (below_all key_cmp x es) h)
less_at x (e ∷ es) pair h (inr there) = less_at x es pair (and_second (is_lt (key_cmp x e.0)) (below_all key_cmp x es) h) there

-- a pair that stands there is found
from_map : (pairs : Map) → InOrder pairs → (pair : List ℕ × List ℕ) → Among pair pairs → value_in pair.0 pairs ≡ Some pair.1
from_map [] h pair among = absurd among
from_map (e ∷ es) h pair (inl here) =
    let tie : is_eq (key_cmp pair.0 e.0) ≡ true = ap (λ (p : List ℕ × List ℕ). is_eq (key_cmp p.0 e.0)) here ∙ ap is_eq (tied_itself nat_list_cmp_total e.0) in
    ap (λ (b : Bool). cond b (Some e.1) (value_in pair.0 es)) tie ∙ ap (λ (p : List ℕ × List ℕ). Some p.1) (sym here)
from_map (e ∷ es) h pair (inr there) =
    let less = less_at e.0 es pair (and_first (below_all key_cmp e.0 es) (is_sorted key_cmp es) h) there in
    let other : is_eq (key_cmp pair.0 e.0) ≡ false =
    false_from_ne_true (is_eq (key_cmp pair.0 e.0)) (λ hit.
    let same : pair.0 ≡ e.0 = same_key pair.0 e.0 (is_equal (key_cmp pair.0 e.0) hit) in
    let tie : key_cmp e.0 pair.0 ≡ Equal = ap (key_cmp e.0) same ∙ tied_itself nat_list_cmp_total e.0 in
    let clash : Less ≡ Equal = sym less ∙ tie in
    absurd (cc)) in
    ap (λ (b : Bool). cond b (Some e.1) (value_in pair.0 es)) other ∙ from_map es (and_second (below_all key_cmp e.0 es) (is_sorted key_cmp es) h) pair there

-- pairs of a map as entries at one version ascend, whichever are taken
pairs_ascend : (v : ℕ) (value : List ℕ × List ℕ → Option (List ℕ)) (keep : List ℕ × List ℕ → Bool) (pairs : Map) → InOrder pairs
    → is_ascending (map (λ pair. record { key = pair.0; version = v; value = value pair }) (filter keep pairs)) ≡ true
pairs_ascend v value keep [] h = refl
pairs_ascend v value keep (e ∷ es) h =
    let made : List ℕ × List ℕ → Entry = λ pair. record { key = pair.0; version = v; value = value pair } in
    let rest = pairs_ascend v value keep es (and_second (below_all key_cmp e.0 es) (is_sorted key_cmp es) h) in
    elim (keep e) as (λ b. is_ascending (map made (cond b (e ∷ filter keep es) (filter keep es))) ≡ true) [
      | true ↦
          and_from (list_all (λ later. is_lt (entry_cmp e.0 v later.key later.version)) (map made (filter keep es))) (is_ascending (map made (filter keep es)))
          (all_from (λ later. is_lt (entry_cmp e.0 v later.key later.version)) (map made (filter keep es)) (λ later among.
          let at = map_among made (filter keep es) later among in
          let there = filter_among keep es at.0 at.1 in
          let less = less_at e.0 es at.0 (and_first (below_all key_cmp e.0 es) (is_sorted key_cmp es) h) there.0 in
          ap (λ (x : Entry). is_lt (entry_cmp e.0 v x.key x.version)) at.2 ∙ ap (λ (o : Ordering). is_lt (ordering_then o (nat_cmp v v))) less))
          rest
      | false ↦ rest
    ]

-- two lists without a common key and version
single_both : (xs ys : List Entry) → is_single xs ≡ true → is_single ys ≡ true → ((e d : Entry) → Among e xs → Among d ys → is_at e.key e.version d ≡ true → ⊥) → is_single (xs ++ ys) ≡ true
single_both [] ys one two apart = two
single_both (x ∷ xs) ys one two apart =
    let parts = and_parts (not (list_any (is_at x.key x.version) xs)) (is_single xs) one in
    and_from (not (list_any (is_at x.key x.version) (xs ++ ys))) (is_single (xs ++ ys))
    (not_from_false (list_any (is_at x.key x.version) (xs ++ ys)) (false_from_ne_true (list_any (is_at x.key x.version) (xs ++ ys)) (λ some.
    let found = any_among (is_at x.key x.version) (xs ++ ys) some in
    elim (among_split xs ys found.0 found.1) [
      | inl here ↦ true≢false (sym (any_from (is_at x.key x.version) found.0 xs here found.2) ∙ not-true (list_any (is_at x.key x.version) xs) parts.0)
      | inr there ↦ apart x found.0 (inl refl) there found.2
    ])))
    (single_both xs ys parts.1 two (λ e d among other. apart e d (inr among) other))

-- the differences of two maps as entries of a version: a pair that one has, and a key that only the other has
abbrev set_at : ℕ → List ℕ × List ℕ → Entry
set_at v pair = record { key = pair.0; version = v; value = Some pair.1 }

abbrev gone_at : ℕ → List ℕ × List ℕ → Entry
gone_at v pair = record { key = pair.0; version = v; value = None }

abbrev told_over : ℕ → Map → Map → List Entry
told_over v pairs above = map (set_at v) (set_in pairs above) ++ map (gone_at v) (gone_in pairs above)

-- the tests by which they are chosen
abbrev found_in : Map → List ℕ → Option (List ℕ)
found_in pairs q = lookup (λ k. is_eq (key_cmp q k)) pairs

abbrev is_set : Map → List ℕ × List ℕ → Bool
is_set above pair = not (is_same_value (Some pair.1) (found_in above pair.0))

abbrev is_gone : Map → List ℕ × List ℕ → Bool
is_gone pairs pair = not (is_some (found_in pairs pair.0))

-- the differences of a version that count
abbrev counted_at : Marks → ℕ → Map → Map → ℕ
counted_at marks v pairs above = cond (is_dropped marks v) 0 (differences pairs above)

module _ (parents : Parents) (tree : IsTree parents) (marks : Marks) (pruned : ArePruned parents marks) (entries : List Entry) (single : is_single entries ≡ true) where
  abbrev maps : ℕ → Map
  maps v = map_over parents entries v

  abbrev thin : List Entry
  thin = thinned parents marks entries

  module _ (v : ℕ) (living : is_dropped marks v ≡ false) where
    abbrev here : Map
    here = maps v

    abbrev above : Map
    above = map_above parents maps v

    value_here : (q : List ℕ) → value_in q here ≡ value_over parents entries v q
    value_here q = map_value parents entries v tree q

    above_order : InOrder above
    above_order = go (parent_of parents v)
      where
        go : (o : Option ℕ) → InOrder (option_map_or maps o [])
        go None = tt
        go (Some p) = map_order parents entries p

    value_there : (q : List ℕ) → value_in q above ≡ value_above parents entries v q
    value_there q = go (parent_of parents v)
      where
        go : (o : Option ℕ) → value_in q (option_map_or maps o []) ≡ option_and_then (λ p. value_over parents entries p q) o
        go None = refl
        go (Some p) = map_value parents entries p tree q

    found_here : (q : List ℕ) → found_in here q ≡ value_over parents entries v q
    found_here q = value_in-lookup q here ∙ value_here q

    found_there : (q : List ℕ) → found_in above q ≡ value_above parents entries v q
    found_there q = value_in-lookup q above ∙ value_there q

    -- where the version has no entry of a key, it has what its parent has
    handed_down : (q : List ℕ) → find (is_at q v) entries ≡ None → value_over parents entries v q ≡ value_above parents entries v q
    handed_down q none = go (parent_of parents v) refl
      where
        go : (o : Option ℕ) → parent_of parents v ≡ o → value_over parents entries v q ≡ option_and_then (λ p. value_over parents entries p q) o
        go None is = ap value_of (deciding_root parents tree entries q v is) ∙ ap (λ (d : Option Entry). value_of (option_or d None)) none
        go (Some p) is = ap value_of (deciding_up parents tree entries q v p is) ∙ ap (λ (d : Option Entry). value_of (option_or d (deciding parents entries q p))) none

    -- where it has one, it has what that says
    said_here : (q : List ℕ) (e : Entry) → find (is_at q v) entries ≡ Some e → value_over parents entries v q ≡ e.value
    said_here q e found = go (parent_of parents v) refl
      where
        go : (o : Option ℕ) → parent_of parents v ≡ o → value_over parents entries v q ≡ e.value
        go None is = ap value_of (deciding_root parents tree entries q v is) ∙ ap (λ (d : Option Entry). value_of (option_or d None)) found
        go (Some p) is = ap value_of (deciding_up parents tree entries q v p is) ∙ ap (λ (d : Option Entry). value_of (option_or d (deciding parents entries q p))) found

    abbrev own : List Entry
    own = filter (λ e. eqb e.version v) thin

    abbrev told : List Entry
    told = told_over v here above

    told_set : (pair : List ℕ × List ℕ) → Among pair here → is_same_value (Some pair.1) (found_in above pair.0) ≡ false → Among (set_at v pair) told
    told_set pair there differs =
        among_left (map (set_at v) (set_in here above)) (map (gone_at v) (gone_in here above)) (set_at v pair)
        (among_map (set_at v) (set_in here above) pair
        (among_filter (is_set above) here pair there (not_from_false (is_same_value (Some pair.1) (found_in above pair.0)) differs)))

    told_gone : (pair : List ℕ × List ℕ) → Among pair above → is_some (found_in here pair.0) ≡ false → Among (gone_at v pair) told
    told_gone pair there lost =
        among_right (map (set_at v) (set_in here above)) (map (gone_at v) (gone_in here above)) (gone_at v pair)
        (among_map (gone_at v) (gone_in here above) pair
        (among_filter (is_gone here) above pair there (not_from_false (is_some (found_in here pair.0)) lost)))

    -- an entry that is left is told
    own_told : (e : Entry) → Among e own → Among e told
    own_told e among =
        let at = filter_among (λ d. eqb d.version v) thin e among in
        let version : e.version ≡ v = eqb-true e.version v at.1 in
        let kept = filter_among (is_telling parents marks entries) entries e at.0 in
        let found : find (is_at e.key v) entries ≡ Some e = find_at entries e.key v e single kept.0 (at_key_version e.key v e refl version) in
        go e.value refl version (said_here e.key e found)
        (ap (λ (u : ℕ). is_same_value e.value (value_above parents entries u e.key)) (sym version) ∙ (telling_parts parents marks entries e kept.1).1)
      where
        go : (o : Option (List ℕ)) → e.value ≡ o → e.version ≡ v → value_over parents entries v e.key ≡ e.value → is_same_value e.value (value_above parents entries v e.key) ≡ false → Among e told
        go (Some b) is version value other =
            subst (λ (d : Entry). Among d told) (λ i. record { key = e.key; version = sym version i; value = sym is i })
            (told_set (e.key, b) (in_map here e.key b (value_here e.key ∙ value ∙ is))
            (ap (is_same_value (Some b)) (found_there e.key) ∙ ap (λ (x : Option (List ℕ)). is_same_value x (value_above parents entries v e.key)) (sym is) ∙ other))
        go None is version value other =
            gone (value_above parents entries v e.key) refl (ap (λ (x : Option (List ℕ)). is_same_value x (value_above parents entries v e.key)) (sym is) ∙ other)
          where
            gone : (a : Option (List ℕ)) → value_above parents entries v e.key ≡ a → is_same_value None (value_above parents entries v e.key) ≡ false → Among e told
            gone None none apart = absurd (true≢false (sym (ap (is_same_value None) none) ∙ apart))
            gone (Some x) some apart =
                subst (λ (d : Entry). Among d told) (λ i. record { key = e.key; version = sym version i; value = sym is i })
                (told_gone (e.key, x) (in_map above e.key x (value_there e.key ∙ some)) (ap (λ (o : Option (List ℕ)). is_some o) (found_here e.key ∙ value ∙ is)))

    -- an entry of the version with what that has, where its parent has something else, is left
    left_over : (e : Entry) → e.version ≡ v → value_over parents entries v e.key ≡ e.value → is_same_value e.value (value_above parents entries v e.key) ≡ false → Among e own
    left_over e version value other =
        elim (option_cases (find (is_at e.key v) entries)) [
          | inl none ↦
              let repeats : value_above parents entries v e.key ≡ e.value = sym (handed_down e.key none) ∙ value in
              absurd (true≢false (sym (ap (is_same_value e.value) repeats ∙ value_same e.value) ∙ other))
          | inr found ↦
              let d = found.0 in
              let there = find_some (is_at e.key v) entries d found.1 in
              let key : d.key ≡ e.key = is_at_key e.key v d there.1 in
              let at : d.version ≡ v = is_at_version e.key v d there.1 in
              let says : d.value ≡ e.value = sym (said_here e.key d found.1) ∙ value in
              let same : d ≡ e = λ i. record { key = key i; version = (at ∙ sym version) i; value = says i } in
              let mine : Among e entries = subst (λ (x : Entry). Among x entries) same there.0 in
              let tells : is_telling parents marks entries e ≡ true =
              telling_from parents marks entries e (ap (is_dropped marks) version ∙ living) (ap (λ (u : ℕ). is_same_value e.value (value_above parents entries u e.key)) version ∙ other) in
              among_filter (λ x. eqb x.version v) thin e (among_filter (is_telling parents marks entries) entries e mine tells) (eq-eqb e.version v version)
        ]

    -- what is found of the pairs that differ
    set_value : (pair : List ℕ × List ℕ) → Among pair (set_in here above) → (value_over parents entries v pair.0 ≡ Some pair.1) × (is_same_value (Some pair.1) (value_above parents entries v pair.0) ≡ false)
    set_value pair among =
        let at = filter_among (is_set above) here pair among in (
          sym (value_here pair.0) ∙ from_map here (map_order parents entries v) pair at.0,
          ap (is_same_value (Some pair.1)) (sym (found_there pair.0)) ∙ not-true (is_same_value (Some pair.1) (found_in above pair.0)) at.1,
        )

    gone_value : (pair : List ℕ × List ℕ) → Among pair (gone_in here above) → (value_over parents entries v pair.0 ≡ None) × (value_above parents entries v pair.0 ≡ Some pair.1)
    gone_value pair among =
        let at = filter_among (is_gone here) above pair among in (
          sym (found_here pair.0) ∙ none_of (found_in here pair.0) (not-true (is_some (found_in here pair.0)) at.1),
          sym (value_there pair.0) ∙ from_map above above_order pair at.0,
        )

    -- an entry that is told is left
    told_own : (e : Entry) → Among e told → Among e own
    told_own e among =
        elim (among_split (map (set_at v) (set_in here above)) (map (gone_at v) (gone_in here above)) e among) [
          | inl set ↦
              let at = map_among (set_at v) (set_in here above) e set in
              let has = set_value at.0 at.1 in
              subst (λ (x : Entry). Among x own) (sym at.2) (left_over (set_at v at.0) refl has.0 has.1)
          | inr gone ↦
              let at = map_among (gone_at v) (gone_in here above) e gone in
              let has = gone_value at.0 at.1 in
              subst (λ (x : Entry). Among x own) (sym at.2) (left_over (gone_at v at.0) refl has.0 (ap (is_same_value None) has.1))
        ]

    own_single : is_single own ≡ true
    own_single = single_filter (λ e. eqb e.version v) thin (single_filter (is_telling parents marks entries) entries single)

    told_single : is_single told ≡ true
    told_single =
        single_both (map (set_at v) (set_in here above)) (map (gone_at v) (gone_in here above))
        (ascending_single (map (set_at v) (set_in here above)) (pairs_ascend v (λ p. Some p.1) (is_set above) here (map_order parents entries v)))
        (ascending_single (map (gone_at v) (gone_in here above)) (pairs_ascend v (λ p. None) (is_gone here) above above_order))
        (λ e d set gone same.
        let one = map_among (set_at v) (set_in here above) e set in
        let two = map_among (gone_at v) (gone_in here above) d gone in
        let key : two.0.0 ≡ one.0.0 = ap (λ (x : Entry). x.key) (sym two.2) ∙ is_at_key e.key e.version d same ∙ ap (λ (x : Entry). x.key) one.2 in
        let both : None ≡ Some one.0.1 = sym (gone_value two.0 two.1).0 ∙ ap (λ (q : List ℕ). value_over parents entries v q) key ∙ (set_value one.0 one.1).0 in
        absurd (cc))

    -- as many entries are left at a living version as its map has differences
    own_differences : own_of thin v ≡ differences here above
    own_differences =
        let most = single_fits own told own_single own_told in
        let least = single_fits told own told_single told_own in
        let size = length-append (map (set_at v) (set_in here above)) (map (gone_at v) (gone_in here above)) in
        let one = length-map (set_in here above) (set_at v) in
        let two = length-map (gone_in here above) (gone_at v) in
        omega (arith, most, least, size, one, two)

  -- at a dropped version nothing is left
  own_dropped : (v : ℕ) → is_dropped marks v ≡ true → own_of thin v ≡ 0
  own_dropped v dropped =
      ap (λ (es : List Entry). length es) (filter_none (λ (e : Entry). eqb e.version v) thin (λ e among.
      false_from_ne_true (eqb e.version v) (λ same.
      true≢false (sym (ap (is_dropped marks) (eqb-true e.version v same) ∙ dropped) ∙ thin_living parents tree marks pruned entries single e among))))

  pub thin_kept : ((e : Entry) → Among e entries → e.version < length parents) → length thin ≡ kept_over parents marks maps
  thin_kept known =
      let numbers : List ℕ = range_with_len 0 (length parents) in
      let all : filter (λ e. is_tagged numbers e.version) thin ≡ thin =
      filter_every (λ (e : Entry). is_tagged numbers e.version) thin (λ e among.
      let low = known e (filter_among (is_telling parents marks entries) entries e among).0 in
      among_tagged numbers e.version (among_range 0 (length parents) e.version (omega arith) (omega (arith, low)))) in
      ap (λ (es : List Entry). length es) (sym all)
      ∙ sym (sum_own thin numbers (distinct_range 0 (length parents)))
      ∙ sum_same (λ v. own_of thin v) (λ v. counted_at marks v (maps v) (map_above parents maps v)) numbers (λ v among. each v (is_dropped marks v) refl)
    where
      each : (v : ℕ) (b : Bool) → is_dropped marks v ≡ b → own_of thin v ≡ counted_at marks v (maps v) (map_above parents maps v)
      each v true is = own_dropped v is ∙ sym (ap (λ (b : Bool). cond b 0 (differences (maps v) (map_above parents maps v))) is)
      each v false is = own_differences v is ∙ sym (ap (λ (b : Bool). cond b 0 (differences (maps v) (map_above parents maps v))) is)

-- only the maps of living versions count
pub kept_living : (parents : Parents) → IsTree parents → (marks : Marks) → ArePruned parents marks → (maps others : ℕ → Map) → ((v : ℕ) → is_dropped marks v ≡ false → maps v ≡ others v)
    → kept_over parents marks maps ≡ kept_over parents marks others
kept_living parents tree marks pruned maps others same =
    sum_same (λ v. counted_at marks v (maps v) (map_above parents maps v)) (λ v. counted_at marks v (others v) (map_above parents others v)) (range_with_len 0 (length parents))
    (λ v among. each v (is_dropped marks v) refl)
  where
    over : (v : ℕ) → is_dropped marks v ≡ false → (o : Option ℕ) → parent_of parents v ≡ o → option_map_or maps o [] ≡ option_map_or others o []
    over v living None is = refl
    over v living (Some p) is = same p (parent_living parents tree marks pruned v p is living)

    each : (v : ℕ) (b : Bool) → is_dropped marks v ≡ b → counted_at marks v (maps v) (map_above parents maps v) ≡ counted_at marks v (others v) (map_above parents others v)
    each v true is = ap (λ (b : Bool). cond b 0 (differences (maps v) (map_above parents maps v))) is ∙ sym (ap (λ (b : Bool). cond b 0 (differences (others v) (map_above parents others v))) is)
    each v false is = λ i. counted_at marks v (same v is i) (over v is (parent_of parents v) refl i)
