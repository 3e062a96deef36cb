-- The leads of a level, as a merge of all entries of its arrays gives them.
use Rattle.std.proofs.Common.{◌≡◌, ◌<◌, ◌≤◌, ◌+◌, ◌*◌, ◌/◌, ◌%◌, ℕ, zero, suc, Bool, true, false, cond, ltb, not, ◌&&◌, inl, inr, List, [], ◌∷◌, ◌++◌, length, map, filter, get_or, Some, refl, sym, ap, ◌∙◌, subst, arith, true≢false}
use Rattle.std.specs.List.{list_all, list_any, slice_get, flat_map}
use Rattle.std.specs.Ordering.{is_lt, nat_cmp, ordering_then}
use Rattle.std.specs.declared.cmp.Ordering.{Ordering}
use Rattle.std.specs.declared.cmp.Ordering.TheVariants.{Less, Equal, Greater}
use Rattle.std.specs.Cmp.{nat_cmp_is}
use Rattle.std.proofs.lemmas.Bool.{and_parts, and_from, not-true, not_from_false, false_from_ne_true, cases_lt, lt-ltb, ltb-true}
use Rattle.std.proofs.lemmas.Cmp.{ranked}
use Rattle.std.proofs.lemmas.Nat.{div-mul-add, mod-mul-add, le-div}
use Rattle.std.proofs.Math.Nat.{div-mul-le_self}
use Rattle.def_state.proofs.MapLemmas.{same_key}
use Rattle.std.proofs.lemmas.List.Elements.{filter-append}
use Rattle.strat_base.specs.Order.{key_cmp}
use Rattle.strat_base.specs.Entries.{Entry, is_of, is_at, is_ascending, is_tagged, holds_entry}
use Rattle.strat_base.proofs.ListFacts.{Among, all_at, all_from, any_among, any_from, find_some, among_flat, among_in_flat, among_filter, filter_among, get_among, among_right}
use Rattle.strat_base.proofs.EntryLemmas.{is_of_key, same_bytes, held_among, among_held}
use Rattle.def_state.specs.Level.{TaggedArray, Level, own_leads, level_leads, tagged_versions, is_distinct}
use Rattle.def_state.specs.Sound.{has_ascending_entries}
use Rattle.def_state.proofs.LevelLemmas.{tagged_among, ascending_single, distinct_behind}
use Rattle.def_promote.proofs.UnionLemmas.{find_single}
use Rattle.def_state.proofs.SettingLemmas.{order, stands_first, first_of}
use Rattle.def_split.specs.Groups.{grouped_entries, has_one_key, are_keyed_apart, AreGroups}
use Rattle.def_split.proofs.ListLemmas.{bool_same, filter_both, filter_ascending, map_among, among_map, distinct_head, distinct_tail}
use Rattle.def_promote.specs.Merging.{Merges}
use Rattle.def_promote.proofs.MergingLemmas.{merged}
use Rattle.def_check.specs.Marked.{marked, unmarked, is_from_run, marked_runs, is_marked_lead, leads_of_marked, kept_below}
use Rattle.def_check.specs.Told.{MayBeCounted, AreLeadsOf}
use Rattle.def_check.proofs.MarkedLemmas.{from_first, to}

map_joined : {X Y : Type 0} (f : X → Y) (xs ys : List X) → map f (xs ++ ys) ≡ map f xs ++ map f ys
map_joined f [] ys = refl
map_joined {Y = Y} f (x ∷ xs) ys = ap (λ (zs : List Y). f x ∷ zs) (map_joined f xs ys)

module _ (p : Entry → Bool) where
  leads_in : List (List Entry) → List (List Entry)
  leads_in groups = map (λ group. map unmarked (filter p group)) groups

  -- group by group, or all at once
  leads_whole : (groups : List (List Entry)) → grouped_entries (leads_in groups) ≡ map unmarked (filter p (grouped_entries groups))
  unfolding leads_in
  leads_whole [] = refl
  leads_whole (group ∷ groups) =
      ap (λ (es : List Entry). map unmarked (filter p group) ++ es) (leads_whole groups)
      ∙ sym (ap (λ (es : List Entry). map unmarked es) (filter-append p group (grouped_entries groups)) ∙ map_joined unmarked (filter p group) (filter p (grouped_entries groups)))

  -- what is left of an entry comes from one of its key
  from_lead : (xs : List Entry) (e : Entry) → Among e (map unmarked (filter p xs)) → (m : Entry) × Among m xs × (p m ≡ true) × (e ≡ unmarked m)
  from_lead xs e among =
      let at = map_among unmarked (filter p xs) e among in
      let kept = filter_among p xs at.0 at.1 in
      (at.0, kept.0, kept.1, at.2)

  one_key : (group : List Entry) → has_one_key group ≡ true → (e d : Entry) → Among e group → Among d group → e.key ≡ d.key
  one_key [] one e d a b = absurd a
  one_key (x ∷ group) one e d a b = at e a ∙ sym (at d b)
    where
      at : (y : Entry) → Among y (x ∷ group) → y.key ≡ x.key
      at y (inl here) = ap (λ (z : Entry). z.key) here
      at y (inr there) = is_of_key x.key y (all_at (is_of x.key) y group one there)

  key_from : (group : List Entry) → ((e d : Entry) → Among e group → Among d group → e.key ≡ d.key) → has_one_key group ≡ true
  key_from [] keyed = refl
  key_from (x ∷ group) keyed = all_from (is_of x.key) group (λ e among. same_bytes e.key x.key (keyed e x (inr among) (inl refl)))

  leads_keyed : (groups : List (List Entry)) → list_all has_one_key groups ≡ true → list_all has_one_key (leads_in groups) ≡ true
  unfolding leads_in
  leads_keyed [] keyed = refl
  leads_keyed (group ∷ groups) keyed =
      let parts = and_parts (has_one_key group) (list_all has_one_key groups) keyed in
      and_from (has_one_key (map unmarked (filter p group))) (list_all has_one_key (leads_in groups))
      (key_from (map unmarked (filter p group)) (λ e d a b.
      let x = from_lead group e a in
      let y = from_lead group d b in
      ap (λ (z : Entry). z.key) x.3 ∙ one_key group parts.0 x.0 y.0 x.1 y.1 ∙ sym (ap (λ (z : Entry). z.key) y.3)))
      (leads_keyed groups parts.1)

  leads_apart : (groups : List (List Entry)) → are_keyed_apart groups ≡ true → are_keyed_apart (leads_in groups) ≡ true
  unfolding leads_in
  leads_apart [] apart = refl
  leads_apart (group ∷ groups) apart =
      let parts = and_parts (list_all (λ e. not (list_any (is_of e.key) (grouped_entries groups))) group) (are_keyed_apart groups) apart in
      and_from (list_all (λ e. not (list_any (is_of e.key) (grouped_entries (leads_in groups)))) (map unmarked (filter p group))) (are_keyed_apart (leads_in groups))
      (all_from (λ e. not (list_any (is_of e.key) (grouped_entries (leads_in groups)))) (map unmarked (filter p group)) (λ e among.
      let x = from_lead group e among in
      let none = not-true (list_any (is_of x.0.key) (grouped_entries groups)) (all_at (λ (d : Entry). not (list_any (is_of d.key) (grouped_entries groups))) x.0 group parts.0 x.1) in
      not_from_false (list_any (is_of e.key) (grouped_entries (leads_in groups))) (false_from_ne_true (list_any (is_of e.key) (grouped_entries (leads_in groups))) (λ any.
      let found = any_among (is_of e.key) (grouped_entries (leads_in groups)) any in
      let y = from_lead (grouped_entries groups) found.0 (subst (λ (es : List Entry). Among found.0 es) (leads_whole groups) found.1) in
      let same : y.0.key ≡ x.0.key = sym (ap (λ (z : Entry). z.key) y.3) ∙ is_of_key e.key found.0 found.2 ∙ ap (λ (z : Entry). z.key) x.3 in
      true≢false (sym (any_from (is_of x.0.key) y.0 (grouped_entries groups) y.1 (same_bytes y.0.key x.0.key same)) ∙ none)))))
      (leads_apart groups parts.1)

  -- leads of one key and version are one entry
  abbrev pub AreApart : List Entry → Type 0
  AreApart xs = (e d : Entry) → Among e xs → Among d xs → p e ≡ true → p d ≡ true → e.key ≡ d.key → e.version / 16384 ≡ d.version / 16384 → e.version ≡ d.version

  lower : (a b : ℕ) → b < a → b / 16384 ≤ a / 16384
  lower a b less = let low = div-mul-le_self b 16384 in le-div (b / 16384) a 16384 (omega arith) (omega (arith, less, low))

  unmarked_order : (e d : Entry) → order e d ≡ Less → (e.key ≡ d.key → e.version / 16384 ≡ d.version / 16384 → e.version ≡ d.version) → is_lt (order (unmarked e) (unmarked d)) ≡ true
  unmarked_order e d less apart = go (key_cmp e.key d.key) refl less
    where
      go : (o : Ordering) → key_cmp e.key d.key ≡ o → ordering_then o (nat_cmp d.version e.version) ≡ Less → is_lt (order (unmarked e) (unmarked d)) ≡ true
      go Less k h = ap (λ (o : Ordering). is_lt (ordering_then o (nat_cmp (d.version / 16384) (e.version / 16384)))) k
      go Equal k h =
          let down : d.version < e.version = ranked d.version e.version Less (sym h) in
          let key = same_key e.key d.key k in
          let le = lower e.version d.version down in
          let ne : (e.version / 16384 ≡ d.version / 16384) → ⊥ = λ same. let versions = apart key same in omega (arith, down, versions) in
          ap (λ (o : Ordering). is_lt (ordering_then o (nat_cmp (d.version / 16384) (e.version / 16384)))) k
          ∙ ap is_lt (sym (nat_cmp_is (d.version / 16384) (e.version / 16384) Less (elim (cases_lt (d.version / 16384) (e.version / 16384)) [ inl lt ↦ lt | inr ge ↦ absurd (ne (omega (arith, le, ge))) ])))
      go Greater k h = absurd (cc)

  leads_ascend : (xs : List Entry) → is_ascending xs ≡ true → AreApart xs → is_ascending (map unmarked (filter p xs)) ≡ true
  leads_ascend [] up apart = refl
  leads_ascend (e ∷ xs) up apart =
      let parts = and_parts (stands_first e xs) (is_ascending xs) up in
      let rest = leads_ascend xs parts.1 (λ d f a b x y. apart d f (inr a) (inr b) x y) in
      go (p e) refl (λ d among passes. unmarked_order e d (first_of e d xs parts.0 among)) rest
    where
      go : (b : Bool) → p e ≡ b → ((d : Entry) → Among d xs → p d ≡ true → (e.key ≡ d.key → e.version / 16384 ≡ d.version / 16384 → e.version ≡ d.version) → is_lt (order (unmarked e) (unmarked d)) ≡ true)
          → is_ascending (map unmarked (filter p xs)) ≡ true → is_ascending (map unmarked (cond b (e ∷ filter p xs) (filter p xs))) ≡ true
      go true is before rest =
          and_from (stands_first (unmarked e) (map unmarked (filter p xs))) (is_ascending (map unmarked (filter p xs)))
          (all_from (λ later. is_lt (order (unmarked e) later)) (map unmarked (filter p xs)) (λ d among.
          let m = from_lead xs d among in
          subst (λ (x : Entry). is_lt (order (unmarked e) x) ≡ true) (sym m.3) (before m.0 m.1 m.2 (λ key version. apart e m.0 (inl refl) (inr m.1) is m.2 key version))))
          rest
      go false is before rest = rest

  leads_grouped : (groups : List (List Entry)) → AreGroups groups → AreApart (grouped_entries groups) → AreGroups (leads_in groups)
  leads_grouped groups grouped apart = record {
    keyed = leads_keyed groups grouped.keyed;
    apart = leads_apart groups grouped.apart;
    ascending = ap is_ascending (leads_whole groups) ∙ leads_ascend (grouped_entries groups) grouped.ascending apart;
  }

get_mapped : {X Y : Type 0} (f : X → Y) (xs : List X) (k : ℕ) (y : Y) → slice_get (map f xs) k ≡ Some y → (x : X) × (slice_get xs k ≡ Some x) × (y ≡ f x)
get_mapped f [] k y e = absurd (cc)
get_mapped f (x ∷ xs) zero y e = (x, refl, cc)
get_mapped f (x ∷ xs) (suc k) y e = get_mapped f xs k y e

mapped_get : {X Y : Type 0} (f : X → Y) (xs : List X) (k : ℕ) (x : X) → slice_get xs k ≡ Some x → slice_get (map f xs) k ≡ Some (f x)
mapped_get f [] k x e = absurd (cc)
mapped_get f (z ∷ xs) zero x e = let same : z ≡ x = cc in ap (λ w. Some (f w)) same
mapped_get f (z ∷ xs) (suc k) x e = mapped_get f xs k x e

at_place : {X : Type 0} (xs : List X) (k : ℕ) (x d : X) → slice_get xs k ≡ Some x → get_or xs k d ≡ x
at_place [] k x d e = absurd (cc)
at_place (z ∷ xs) zero x d e = cc
at_place (z ∷ xs) (suc k) x d e = at_place xs k x d e

has_place : {X : Type 0} (xs : List X) (x : X) → Among x xs → (k : ℕ) × (slice_get xs k ≡ Some x)
has_place [] x among = absurd among
has_place (z ∷ xs) x (inl here) = (0, ap (λ w. Some w) (sym here))
has_place (z ∷ xs) x (inr there) = let found = has_place xs x there in (suc found.0, found.1)

less_than : {X : Type 0} (xs : List X) (k : ℕ) (x : X) → slice_get xs k ≡ Some x → k < length xs
less_than [] k x is = absurd (cc)
less_than (z ∷ xs) zero x is = omega arith
less_than (z ∷ xs) (suc k) x is = let rest = less_than xs k x is in omega (arith, rest)

length_mapped : {X Y : Type 0} (f : X → Y) (xs : List X) → length (map f xs) ≡ length xs
length_mapped f [] = refl
length_mapped f (x ∷ xs) = ap suc (length_mapped f xs)

tags_meet : (xs ys : List ℕ) (v : ℕ) → is_distinct (xs ++ ys) ≡ true → Among v xs → Among v ys → ⊥
tags_meet [] ys v h mine other = absurd mine
tags_meet (x ∷ xs) ys v h (inl here) other =
    distinct_head x (xs ++ ys) h (subst (λ (n : ℕ). Among n (xs ++ ys)) here (among_right xs ys v other))
tags_meet (x ∷ xs) ys v h (inr there) other = tags_meet xs ys v (distinct_tail x (xs ++ ys) h) there other

-- no version is in the tags of two places
one_place : (arrays : List TaggedArray) → is_distinct (flat_map (λ a. a.tag) arrays) ≡ true → (i j : ℕ) (a b : TaggedArray) (v : ℕ)
    → slice_get arrays i ≡ Some a → slice_get arrays j ≡ Some b → Among v a.tag → Among v b.tag → i ≡ j
one_place [] apart i j a b v is other mine its = absurd (cc)
one_place (x ∷ arrays) apart zero zero a b v is other mine its = refl
one_place (x ∷ arrays) apart zero (suc j) a b v is other mine its =
    let same : x ≡ a = cc in
    absurd (tags_meet x.tag (flat_map (λ y. y.tag) arrays) v apart (subst (λ (y : TaggedArray). Among v y.tag) (sym same) mine)
    (among_in_flat (λ (y : TaggedArray). y.tag) arrays b v (get_among arrays j b other) its))
one_place (x ∷ arrays) apart (suc i) zero a b v is other mine its =
    let same : x ≡ b = cc in
    absurd (tags_meet x.tag (flat_map (λ y. y.tag) arrays) v apart (subst (λ (y : TaggedArray). Among v y.tag) (sym same) its)
    (among_in_flat (λ (y : TaggedArray). y.tag) arrays a v (get_among arrays i a is) mine))
one_place (x ∷ arrays) apart (suc i) (suc j) a b v is other mine its =
    ap suc (one_place arrays (distinct_behind x.tag (flat_map (λ y. y.tag) arrays) apart) i j a b v is other mine its)

module _ (level : Level) (may : MayBeCounted level) (groups : List (List Entry)) (few : length level.arrays ≤ 16384)
    (merges : Merges (marked_runs 0 (map (λ a. a.content) level.arrays)) groups) where
  -- where a marked entry comes from
  record Source (m : Entry) : Type 0 where
    k : ℕ
    a : TaggedArray
    x : Entry
    at : slice_get level.arrays k ≡ Some a
    inside : Among x a.content
    is : m ≡ marked k x
    low : k < 16384

  all : List Entry
  all = grouped_entries groups

  p : Entry → Bool
  p = is_marked_lead (map (λ a. a.tag) level.arrays)

  source : (m : Entry) → Among m (grouped_entries groups) → Source m
  source m among =
      let union = (merged (marked_runs 0 (map (λ a. a.content) level.arrays)) groups merges).0 in
      let single = find_single (grouped_entries groups) m (ascending_single (grouped_entries groups) union.ascending) among in
      let there = find_some (is_at m.key m.version) (grouped_entries (marked_runs 0 (map (λ a. a.content) level.arrays))) m (sym (union.first m.key m.version) ∙ single) in
      let found = from_first (map (λ a. a.content) level.arrays) m there.0 in
      let array = get_mapped (λ (a : TaggedArray). a.content) level.arrays found.0 found.1 found.2 in
      let entry = map_among (marked found.0) found.1 m found.3 in
      let less = less_than level.arrays found.0 array.0 array.1 in
      record {
        k = found.0;
        a = array.0;
        x = entry.0;
        at = array.1;
        inside = subst (λ (es : List Entry). Among entry.0 es) array.2 entry.1;
        is = entry.2;
        low = omega (arith, less, few);
      }

  -- its version and its place
  version_is : (k : ℕ) (x : Entry) → k < 16384 → (marked k x).version / 16384 ≡ x.version
  version_is k x low = div-mul-add x.version 16384 k low

  lead_is : (k : ℕ) (a : TaggedArray) (x : Entry) → slice_get level.arrays k ≡ Some a → k < 16384 → p (marked k x) ≡ is_tagged a.tag x.version
  unfolding p
  lead_is k a x at low =
      ap (λ (n : ℕ). is_tagged (get_or (map (λ b. b.tag) level.arrays) ((marked k x).version % 16384) []) n) (version_is k x low)
      ∙ ap (λ (n : ℕ). is_tagged (get_or (map (λ b. b.tag) level.arrays) n []) x.version) (mod-mul-add x.version 16384 k low)
      ∙ ap (λ (tag : List ℕ). is_tagged tag x.version) (at_place (map (λ (b : TaggedArray). b.tag) level.arrays) k a.tag [] (mapped_get (λ (b : TaggedArray). b.tag) level.arrays k a at))

  distinct : is_distinct (flat_map (λ a. a.tag) level.arrays) ≡ true
  distinct = (and_parts (is_distinct (tagged_versions level)) (list_all (λ v. ltb v level.horizon) (tagged_versions level)) may.disjoint).0

  apart : AreApart p (grouped_entries groups)
  apart e d a b one two key version =
      let s = source e a in
      let t = source d b in
      let su : e.version / 16384 ≡ s.x.version = ap (λ (z : Entry). z.version / 16384) s.is ∙ version_is s.k s.x s.low in
      let tu : d.version / 16384 ≡ t.x.version = ap (λ (z : Entry). z.version / 16384) t.is ∙ version_is t.k t.x t.low in
      let same : s.x.version ≡ t.x.version = sym su ∙ version ∙ tu in
      let mine = tagged_among s.a.tag s.x.version (sym (lead_is s.k s.a s.x s.at s.low) ∙ ap p (sym s.is) ∙ one) in
      let its = tagged_among t.a.tag t.x.version (sym (lead_is t.k t.a t.x t.at t.low) ∙ ap p (sym t.is) ∙ two) in
      let place : s.k ≡ t.k = one_place level.arrays distinct s.k t.k s.a t.a s.x.version s.at t.at mine (subst (λ (n : ℕ). Among n t.a.tag) (sym same) its) in
      ap (λ (z : Entry). z.version) s.is ∙ (λ i. same i * 16384 + place i) ∙ sym (ap (λ (z : Entry). z.version) t.is)

  to_leads : (e : Entry) → Among e (map unmarked (filter p (grouped_entries groups))) → Among e (level_leads level)
  to_leads e among =
      let m = from_lead p (grouped_entries groups) e among in
      let s = source m.0 m.1 in
      let whole : e ≡ s.x = m.3 ∙ ap unmarked s.is ∙ (λ i. record s.x { version = version_is s.k s.x s.low i }) in
      let tagged : is_tagged s.a.tag s.x.version ≡ true = sym (lead_is s.k s.a s.x s.at s.low) ∙ ap p (sym s.is) ∙ m.2 in
      subst (λ (z : Entry). Among z (level_leads level)) (sym whole)
      (among_in_flat own_leads level.arrays s.a s.x (get_among level.arrays s.k s.a s.at) (among_filter (λ d. is_tagged s.a.tag d.version) s.a.content s.x s.inside tagged))

  from_leads : (e : Entry) → Among e (level_leads level) → Among e (map unmarked (filter p (grouped_entries groups)))
  from_leads e among =
      let found = among_flat own_leads level.arrays e among in
      let kept = filter_among (λ d. is_tagged found.0.tag d.version) found.0.content e found.2 in
      let place = has_place level.arrays found.0 found.1 in
      let less = less_than level.arrays place.0 found.0 place.1 in
      let low : place.0 < 16384 = omega (arith, less, few) in
      let size = length_mapped (λ (a : TaggedArray). a.content) level.arrays in
      let inside = to (map (λ a. a.content) level.arrays) groups (omega (arith, size, few))
      (λ k run is. let at = get_mapped (λ (a : TaggedArray). a.content) level.arrays k run is in
      ap is_ascending at.2 ∙ all_at has_ascending_entries at.0 level.arrays may.ascending (get_among level.arrays k at.0 at.1))
      merges place.0 found.0.content (mapped_get (λ (a : TaggedArray). a.content) level.arrays place.0 found.0 place.1) (marked place.0 e) (among_map (marked place.0) found.0.content e kept.0) in
      let mark = filter_among (is_from_run place.0) (grouped_entries groups) (marked place.0 e) inside in
      let lead : p (marked place.0 e) ≡ true = lead_is place.0 found.0 e place.1 low ∙ kept.1 in
      let back : unmarked (marked place.0 e) ≡ e = λ i. record e { version = version_is place.0 e low i } in
      subst (λ (z : Entry). Among z (map unmarked (filter p (grouped_entries groups)))) back
      (among_map unmarked (filter p (grouped_entries groups)) (marked place.0 e) (among_filter p (grouped_entries groups) (marked place.0 e) mark.0 lead))

  pub marked_leads : AreLeadsOf level (leads_of_marked (map (λ a. a.tag) level.arrays) groups)
  unfolding p leads_in
  marked_leads =
      let grouped = (merged (marked_runs 0 (map (λ a. a.content) level.arrays)) groups merges).1 in
      record {
        grouped = leads_grouped p groups grouped apart;
        same = λ e.
            ap (λ (es : List Entry). holds_entry es e) (leads_whole p groups)
            ∙ bool_same (holds_entry (map unmarked (filter p (grouped_entries groups))) e) (holds_entry (level_leads level) e)
            (λ h. among_held (level_leads level) e (to_leads e (held_among (map unmarked (filter p (grouped_entries groups))) e h)))
            (λ h. among_held (map unmarked (filter p (grouped_entries groups))) e (from_leads e (held_among (level_leads level) e h)));
      }

-- no lead is lost with the versions at or past a number that bounds all tags

module _ (n : ℕ) where
  leads_kept : (a : TaggedArray) → ((v : ℕ) → Among v a.tag → v < n) → own_leads (kept_below n a) ≡ own_leads a
  leads_kept a low =
      filter_both (λ (e : Entry). ltb e.version n) (λ e. is_tagged a.tag e.version) (λ e. is_tagged a.tag e.version) a.content (λ e among.
      bool_same (ltb e.version n && is_tagged a.tag e.version) (is_tagged a.tag e.version)
      (λ both. (and_parts (ltb e.version n) (is_tagged a.tag e.version) both).1)
      (λ tagged. and_from (ltb e.version n) (is_tagged a.tag e.version) (lt-ltb e.version n (low e.version (tagged_among a.tag e.version tagged))) tagged))

  all_kept : (arrays : List TaggedArray) → ((a : TaggedArray) (v : ℕ) → Among a arrays → Among v a.tag → v < n) → flat_map own_leads (map (kept_below n) arrays) ≡ flat_map own_leads arrays
  all_kept [] low = refl
  all_kept (a ∷ arrays) low = λ i. leads_kept a (λ v among. low a v (inl refl) among) i ++ all_kept arrays (λ b v there among. low b v (inr there) among) i

  tags_kept : (arrays : List TaggedArray) → flat_map (λ a. a.tag) (map (kept_below n) arrays) ≡ flat_map (λ a. a.tag) arrays
  tags_kept [] = refl
  tags_kept (a ∷ arrays) = ap (λ (vs : List ℕ). a.tag ++ vs) (tags_kept arrays)

  own_tags : (arrays : List TaggedArray) → map (λ a. a.tag) (map (kept_below n) arrays) ≡ map (λ a. a.tag) arrays
  own_tags [] = refl
  own_tags (a ∷ arrays) = ap (λ (tags : List (List ℕ)). a.tag ∷ tags) (own_tags arrays)

  module _ (level : Level) (may : MayBeCounted level) (old : level.horizon ≤ n) (groups : List (List Entry)) (few : length level.arrays ≤ 16384)
      (merges : Merges (marked_runs 0 (map (λ a. a.content) (map (kept_below n) level.arrays))) groups) where
    kept_level : Level
    kept_level = record level { arrays = map (kept_below n) level.arrays }

    tags_low : (a : TaggedArray) (v : ℕ) → Among a level.arrays → Among v a.tag → v < n
    tags_low a v here among =
        let parts = and_parts (is_distinct (tagged_versions level)) (list_all (λ w. ltb w level.horizon) (tagged_versions level)) may.disjoint in
        let less = ltb-true v level.horizon (all_at (λ w. ltb w level.horizon) v (tagged_versions level) parts.1 (among_in_flat (λ (x : TaggedArray). x.tag) level.arrays a v here among)) in
        omega (arith, less, old)

    may_kept : MayBeCounted (record level { arrays = map (kept_below n) level.arrays })
    may_kept = record {
      ascending = all_from has_ascending_entries (map (kept_below n) level.arrays) (λ a among.
          let at = map_among (kept_below n) level.arrays a among in
          ap (λ (x : TaggedArray). is_ascending x.content) at.2 ∙ filter_ascending (λ (e : Entry). ltb e.version n) at.0.content (all_at has_ascending_entries at.0 level.arrays may.ascending at.1));
      disjoint = ap (λ (vs : List ℕ). is_distinct vs && list_all (λ v. ltb v level.horizon) vs) (tags_kept level.arrays) ∙ may.disjoint;
    }

    pub kept_leads : AreLeadsOf level (leads_of_marked (map (λ a. a.tag) level.arrays) groups)
    kept_leads =
        let size = length_mapped (kept_below n) level.arrays in
        let there = marked_leads (record level { arrays = map (kept_below n) level.arrays }) may_kept groups (omega (arith, size, few)) merges in
        let here : AreLeadsOf (record level { arrays = map (kept_below n) level.arrays }) (leads_of_marked (map (λ a. a.tag) level.arrays) groups) =
        subst (λ (tags : List (List ℕ)). AreLeadsOf (record level { arrays = map (kept_below n) level.arrays }) (leads_of_marked tags groups)) (own_tags level.arrays) there in
        record { grouped = here.grouped; same = λ e. here.same e ∙ ap (λ (es : List Entry). holds_entry es e) (all_kept level.arrays tags_low) }
