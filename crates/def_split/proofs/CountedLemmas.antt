-- How many entries are a version's own, and how many keys a version sees.
use Rattle.std.proofs.Common.{◌≡◌, ◌<◌, ◌≤◌, ◌+◌, ℕ, map, Bool, true, false, cond, eqb, inl, inr, List, [], ◌∷◌, length, filter, Some, None, refl, sym, ap, ◌∙◌, subst, arith, true≢false}
use Rattle.std.specs.List.{sum_by, count_by, range_with_len}
use Rattle.std.proofs.lemmas.Bool.{eqb-true, eq-eqb, cases_Bool}
use Rattle.std.proofs.lemmas.List.Concat.{length-flat_map}
use Rattle.std.proofs.lemmas.List.Sums.{sum_by-cons, length-filter}
use Rattle.strat_base.specs.Tree.{Parents, parent_of, path, is_ancestor, IsTree}
use Rattle.strat_base.specs.Entries.{Entry, is_of, is_single, is_tagged}
use Rattle.def_state.specs.Live.{is_live, live}
use Rattle.def_state.specs.Level.{is_distinct}
use Rattle.strat_base.proofs.ListFacts.{Among, any_among, any_from, among_filter, filter_among}
use Rattle.strat_base.proofs.EntryLemmas.{same_bytes}
use Rattle.strat_base.proofs.TreeLemmas.{on_root, on_path, from_path, ancestor_among, among_ancestor}
use Rattle.def_state.proofs.LiveLemmas.{deciding_found, deciding_some, decides_live, live_few, live_on_path}
use Rattle.def_split.specs.Plan.{Plan, horizon_of, part_of, members}
use Rattle.def_split.specs.Planned.{part_leads}
use Rattle.def_split.specs.Groups.{grouped_entries, AreGroups, group_versions, own_of}
use Rattle.def_state.specs.Counted.{own_at, sees_one, keys_at}
use Rattle.def_split.proofs.ListLemmas.{bool_same, filter_same, filter_none, filter_every, count_either, filter_le, some_length, empty_length, map_among, among_map, distinct_range, distinct_filter, distinct_head, distinct_tail}
use Rattle.def_split.proofs.PlannedLemmas.{member_of, of_member}
use Rattle.def_split.proofs.LiveSetLemmas.{live_self}
use Rattle.def_split.proofs.GroupedLemmas.{group_single, group_key, filter_groups, live_groups}

-- sums term by term

pub sum_same : {X : Type 0} (f g : X → ℕ) (xs : List X) → ((x : X) → Among x xs → f x ≡ g x) → sum_by f xs ≡ sum_by g xs
sum_same f g [] each = refl
sum_same f g (x ∷ xs) each =
    let here : f x ≡ g x = each x (inl refl) in
    let rest : sum_by f xs ≡ sum_by g xs = sum_same f g xs (λ y among. each y (inr among)) in
    sum_by-cons f x xs ∙ (λ i. here i + rest i) ∙ sym (sum_by-cons g x xs)

pub sum_map : {X Y : Type 0} (f : Y → ℕ) (h : X → Y) (xs : List X) → sum_by f (map h xs) ≡ sum_by (λ x. f (h x)) xs
sum_map f h [] = refl
sum_map f h (x ∷ xs) = sum_by-cons f (h x) (map h xs) ∙ ap (λ (n : ℕ). f (h x) + n) (sum_map f h xs) ∙ sym (sum_by-cons (λ y. f (h y)) x xs)

pub sum_le : {X : Type 0} (f g : X → ℕ) (xs : List X) → ((x : X) → Among x xs → f x ≤ g x) → sum_by f xs ≤ sum_by g xs
sum_le f g [] each = omega arith
sum_le f g (x ∷ xs) each =
    let here = each x (inl refl) in
    let rest = sum_le f g xs (λ y among. each y (inr among)) in
    let left = sum_by-cons f x xs in
    let right = sum_by-cons g x xs in
    omega arith

pub sum_le_both : {X : Type 0} (f g h : X → ℕ) (xs : List X) → ((x : X) → Among x xs → f x ≤ g x + h x) → sum_by f xs ≤ sum_by g xs + sum_by h xs
sum_le_both f g h [] each = omega arith
sum_le_both f g h (x ∷ xs) each =
    let here = each x (inl refl) in
    let rest = sum_le_both f g h xs (λ y among. each y (inr among)) in
    let left = sum_by-cons f x xs in
    let middle = sum_by-cons g x xs in
    let right = sum_by-cons h x xs in
    omega arith

-- a version's own entries

own_group : (group : List Entry) (v : ℕ) → own_of group v ≡ count_by (λ u. eqb u v) (map (λ e. e.version) group)
own_group group v = length-filter (λ e. eqb e.version v) group ∙ sym (sum_map (λ (u : ℕ). cond (eqb u v) 1 0) (λ (e : Entry). e.version) group)

pub own_groups : (groups : List (List Entry)) (v : ℕ) → own_of (grouped_entries groups) v ≡ own_at (group_versions groups) v
own_groups groups v =
    ap (λ (es : List Entry). length es) (filter_groups (λ (e : Entry). eqb e.version v) (λ group e. eqb e.version v) groups (λ group among e there. refl))
    ∙ length-flat_map (λ (group : List Entry). filter (λ e. eqb e.version v) group) groups
    ∙ sum_same (λ (group : List Entry). length (filter (λ e. eqb e.version v) group)) (λ group. count_by (λ u. eqb u v) (map (λ e. e.version) group)) groups (λ group among. own_group group v)
    ∙ sym (sum_map (λ (versions : List ℕ). count_by (λ u. eqb u v) versions) (λ (group : List Entry). map (λ e. e.version) group) groups)

-- the entries of some versions, added up version by version
pub sum_own : (entries : List Entry) (vs : List ℕ) → is_distinct vs ≡ true → sum_by (λ v. own_of entries v) vs ≡ length (filter (λ e. is_tagged vs e.version) entries)
sum_own entries [] h = sym (ap (λ (es : List Entry). length es) (filter_none (λ (e : Entry). false) entries (λ e among. refl)))
sum_own entries (v ∷ vs) h =
    let rest = sum_own entries vs (distinct_tail v vs h) in
    let first = sum_by-cons (λ u. own_of entries u) v vs in
    let turned = ap (λ (es : List Entry). length es) (filter_same (λ (e : Entry). eqb e.version v) (λ e. eqb v e.version) entries (λ e among.
    bool_same (eqb e.version v) (eqb v e.version) (λ same. eq-eqb v e.version (sym (eqb-true e.version v same))) (λ same. eq-eqb e.version v (sym (eqb-true v e.version same))))) in
    let both = count_either (λ (e : Entry). eqb v e.version) (λ e. is_tagged vs e.version) entries (λ e among one other.
    let same : v ≡ e.version = eqb-true v e.version one in
    let found = any_among (λ w. eqb w e.version) vs other in
    distinct_head v vs h (subst (λ (x : ℕ). Among x vs) (eqb-true found.0 e.version found.2 ∙ sym same) found.1)) in
    omega (arith, rest, first, turned, both)

pub part_sum : (entries : List Entry) (plan : Plan) → ((e : Entry) → Among e entries → e.version < horizon_of plan) → (q : ℕ) → sum_by (λ v. own_of entries v) (members plan q) ≡ length (part_leads plan entries q)
part_sum entries plan low q =
    sum_own entries (members plan q) (distinct_filter (λ v. eqb (part_of plan v) q) (range_with_len 0 (horizon_of plan)) (distinct_range 0 (horizon_of plan)))
    ∙ ap (λ (es : List Entry). length es) (filter_same (λ (e : Entry). is_tagged (members plan q) e.version) (λ e. eqb (part_of plan e.version) q) entries (λ e among.
    bool_same (is_tagged (members plan q) e.version) (eqb (part_of plan e.version) q)
    (λ tagged.
    let found = any_among (λ w. eqb w e.version) (members plan q) tagged in
    let member = of_member plan q found.0 found.1 in
    eq-eqb (part_of plan e.version) q (ap (λ (u : ℕ). part_of plan u) (sym (eqb-true found.0 e.version found.2)) ∙ member.1))
    (λ own. any_from (λ w. eqb w e.version) e.version (members plan q) (member_of plan q e.version (low e among) (eqb-true (part_of plan e.version) q own)) (eq-eqb e.version e.version refl))))

-- the keys that a version sees

module _ (parents : Parents) (tree : IsTree parents) where
  sees_among : (v : ℕ) (group : List Entry) → sees_one parents v (map (λ e. e.version) group) ≡ true → (e : Entry) × Among e group × Among e.version (path parents v)
  sees_among v group sees =
      let found = any_among (λ u. is_ancestor parents u v) (map (λ e. e.version) group) sees in
      let at = map_among (λ (e : Entry). e.version) group found.0 found.1 in
      (at.0, at.1, subst (λ (u : ℕ). Among u (path parents v)) at.2 (ancestor_among parents tree found.0 v found.2))

  among_sees : (v : ℕ) (group : List Entry) (e : Entry) → Among e group → Among e.version (path parents v) → sees_one parents v (map (λ d. d.version) group) ≡ true
  among_sees v group e among on =
      any_from (λ u. is_ancestor parents u v) e.version (map (λ d. d.version) group) (among_map (λ (d : Entry). d.version) group e among) (among_ancestor parents tree e.version v on)

  -- of a key one entry is live where it is seen, else none
  group_live : (group : List Entry) → is_single group ≡ true → ((e d : Entry) → Among e group → Among d group → e.key ≡ d.key) → (v : ℕ) → length (live parents group v) ≡ cond (sees_one parents v (map (λ e. e.version) group)) 1 0
  group_live group single keyed v =
      elim (cases_Bool (sees_one parents v (map (λ e. e.version) group))) [
        | inl sees ↦
            let at = sees_among v group sees in
            let e = at.0 in
            let found = deciding_found parents tree group e.key v e at.1 refl at.2 in
            let decides = deciding_some parents tree group e.key v found.0 found.1 in
            let more = some_length (live parents group v) found.0 (among_filter (is_live parents group v) group found.0 decides.among (decides_live parents tree group e.key v found.0 decides)) in
            let all = ap (λ (es : List Entry). length es) (filter_every (is_of e.key) (live parents group v) (λ d among.
            same_bytes d.key e.key (keyed d e (filter_among (is_live parents group v) group d among).0 at.1))) in
            let few = live_few parents tree group e.key v single in
            let one : length (live parents group v) ≡ 1 = omega (arith, more, all, few) in
            one ∙ ap (λ (b : Bool). cond b 1 0) (sym sees)
        | inr blind ↦
            empty_length (live parents group v) (λ e among.
            let kept = filter_among (is_live parents group v) group e among in
            true≢false (sym (among_sees v group e kept.0 (live_on_path parents tree group v e kept.1)) ∙ blind))
            ∙ ap (λ (b : Bool). cond b 1 0) (sym blind)
      ]

  pub live_count : (groups : List (List Entry)) → AreGroups groups → (v : ℕ) → length (live parents (grouped_entries groups) v) ≡ keys_at parents (group_versions groups) v
  live_count groups grouped v =
      ap (λ (es : List Entry). length es) (live_groups parents tree groups grouped v)
      ∙ length-flat_map (λ (group : List Entry). live parents group v) groups
      ∙ sum_same (λ (group : List Entry). length (live parents group v)) (λ group. cond (sees_one parents v (map (λ e. e.version) group)) 1 0) groups
      (λ group among. group_live group (group_single groups grouped group among) (λ e d a b. group_key groups grouped group among e d a b) v)
      ∙ sym (sum_map (λ (versions : List ℕ). cond (sees_one parents v versions) 1 0) (λ (group : List Entry). map (λ e. e.version) group) groups)

  -- what a version sees, its children see
  seen_grows : (v p : ℕ) → parent_of parents v ≡ Some p → (versions : List ℕ) → cond (sees_one parents p versions) 1 0 ≤ cond (sees_one parents v versions) 1 0
  seen_grows v p some versions =
      elim (cases_Bool (sees_one parents p versions)) [
        | inl sees ↦
            let found = any_among (λ u. is_ancestor parents u p) versions sees in
            let deeper = any_from (λ u. is_ancestor parents u v) found.0 versions found.1 (among_ancestor parents tree found.0 v (from_path parents tree found.0 v p some (inr (ancestor_among parents tree found.0 p found.2)))) in
            let left = ap {B = ℕ} (λ (b : Bool). cond b 1 0) sees in
            let right = ap {B = ℕ} (λ (b : Bool). cond b 1 0) deeper in
            omega (arith, left, right)
        | inr blind ↦ let left = ap {B = ℕ} (λ (b : Bool). cond b 1 0) blind in omega (arith, left)
      ]

  pub keys_grow : (groups : List (List ℕ)) (v p : ℕ) → parent_of parents v ≡ Some p → keys_at parents groups p ≤ keys_at parents groups v
  keys_grow groups v p some = sum_le (λ (versions : List ℕ). cond (sees_one parents p versions) 1 0) (λ versions. cond (sees_one parents v versions) 1 0) groups (λ versions among. seen_grows v p some versions)

  own_counted : (versions : List ℕ) (v : ℕ) → Among v versions → 1 ≤ count_by (λ u. eqb u v) versions
  own_counted versions v among =
      let size = length-filter (λ (u : ℕ). eqb u v) versions in
      let some = some_length (filter (λ u. eqb u v) versions) v (among_filter (λ u. eqb u v) versions v among (eq-eqb v v refl)) in
      omega (arith, size, some)

  -- what a version sees, its parent sees or it has itself
  seen_begun : (v p : ℕ) → parent_of parents v ≡ Some p → (versions : List ℕ) → cond (sees_one parents v versions) 1 0 ≤ cond (sees_one parents p versions) 1 0 + count_by (λ u. eqb u v) versions
  seen_begun v p some versions =
      elim (cases_Bool (sees_one parents v versions)) [
        | inl sees ↦
            let found = any_among (λ u. is_ancestor parents u v) versions sees in
            let left = ap {B = ℕ} (λ (b : Bool). cond b 1 0) sees in
            elim (on_path parents tree found.0 v p some (ancestor_among parents tree found.0 v found.2)) [
              | inl here ↦ let own = own_counted versions v (subst (λ (u : ℕ). Among u versions) here found.1) in omega (arith, left, own)
              | inr there ↦
                  let right = ap {B = ℕ} (λ (b : Bool). cond b 1 0) (any_from (λ u. is_ancestor parents u p) found.0 versions found.1 (among_ancestor parents tree found.0 p there)) in
                  omega (arith, left, right)
            ]
        | inr blind ↦ let left = ap {B = ℕ} (λ (b : Bool). cond b 1 0) blind in omega (arith, left)
      ]

  pub keys_begun : (groups : List (List ℕ)) (v p : ℕ) → parent_of parents v ≡ Some p → keys_at parents groups v ≤ keys_at parents groups p + own_at groups v
  keys_begun groups v p some =
      sum_le_both (λ (versions : List ℕ). cond (sees_one parents v versions) 1 0) (λ versions. cond (sees_one parents p versions) 1 0) (λ versions. count_by (λ u. eqb u v) versions) groups (λ versions among. seen_begun v p some versions)

  seen_first : (v : ℕ) → parent_of parents v ≡ None → (versions : List ℕ) → cond (sees_one parents v versions) 1 0 ≤ count_by (λ u. eqb u v) versions
  seen_first v none versions =
      elim (cases_Bool (sees_one parents v versions)) [
        | inl sees ↦
            let found = any_among (λ u. is_ancestor parents u v) versions sees in
            let left = ap {B = ℕ} (λ (b : Bool). cond b 1 0) sees in
            let here = on_root parents tree found.0 v none (ancestor_among parents tree found.0 v found.2) in
            let own = own_counted versions v (subst (λ (u : ℕ). Among u versions) here found.1) in
            omega (arith, left, own)
        | inr blind ↦ let left = ap {B = ℕ} (λ (b : Bool). cond b 1 0) blind in omega (arith, left)
      ]

  pub keys_first : (groups : List (List ℕ)) (v : ℕ) → parent_of parents v ≡ None → keys_at parents groups v ≤ own_at groups v
  keys_first groups v none = sum_le (λ (versions : List ℕ). cond (sees_one parents v versions) 1 0) (λ versions. count_by (λ u. eqb u v) versions) groups (λ versions among. seen_first v none versions)

  -- a version sees each key of which it has an entry
  pub own_few : (entries : List Entry) (v : ℕ) → own_of entries v ≤ length (live parents entries v)
  own_few entries v =
      filter_le (λ (e : Entry). eqb e.version v) (is_live parents entries v) entries (λ e among own.
      subst (λ (u : ℕ). is_live parents entries u e ≡ true) (eqb-true e.version v own) (live_self parents tree entries e))

  pub own_live : (groups : List (List Entry)) → AreGroups groups → (v : ℕ) → own_at (group_versions groups) v ≤ keys_at parents (group_versions groups) v
  own_live groups grouped v =
      let own = own_groups groups v in
      let all = live_count groups grouped v in
      let few = own_few (grouped_entries groups) v in
      omega (arith, own, all, few)
