-- Weights are told group by group, and from a parent to its children.
use Rattle.std.proofs.Common.{◌≡◌, ◌≤◌, ◌+◌, ℕ, suc, map, Bool, true, false, cond, eqb, ◌&&◌, inl, inr, List, [], ◌∷◌, length, Option, Some, None, refl, sym, ap, ◌∙◌, arith, true≢false}
use Rattle.std.specs.List.{list_any, find, sum_by, flat_map}
use Rattle.std.specs.Option.{option_map, option_map_or, option_or}
use Rattle.std.proofs.lemmas.Bool.{cases_Bool}
use Rattle.std.proofs.lemmas.List.Sums.{sum_by-cons, sum_by-append}
use Rattle.strat_base.specs.Tree.{Parents, parent_of, is_ancestor, IsTree}
use Rattle.strat_base.specs.Entries.{Entry, is_of, is_at, is_single, is_ascending}
use Rattle.def_state.specs.Live.{is_live, live, deciding}
use Rattle.strat_base.proofs.ListFacts.{Among, any_from, any_among, find_some, find_none, among_filter, filter_among}
use Rattle.strat_base.proofs.EntryLemmas.{same_bytes}
use Rattle.strat_base.proofs.ResultFacts.{option_cases}
use Rattle.strat_base.proofs.TreeLemmas.{among_ancestor}
use Rattle.def_state.proofs.LiveLemmas.{deciding_some, decides_live, live_few, live_on_path, deciding_up, deciding_root}
use Rattle.def_state.proofs.GroupLemmas.{deciding_group}
use Rattle.def_split.specs.Groups.{grouped_entries, AreGroups, group_versions}
use Rattle.def_state.specs.Counted.{keys_at}
use Rattle.def_split.proofs.ListLemmas.{filter_every}
use Rattle.def_split.proofs.CountedLemmas.{sum_same, sum_map, live_count}
use Rattle.def_split.proofs.GroupedLemmas.{group_ascending, group_single, group_key, live_groups}
use Rattle.def_check.specs.Weights.{weight_of, weight_seen, weights_seen, own_weight, lost_weight, nearest_at, nearest_sum}

sum_flat : {X Y : Type 0} (w : Y → ℕ) (f : X → List Y) (xs : List X) → sum_by w (flat_map f xs) ≡ sum_by (λ x. sum_by w (f x)) xs
sum_flat w f [] = refl
sum_flat w f (x ∷ xs) =
    sum_by-append w (f x) (flat_map f xs) ∙ ap (λ (n : ℕ). sum_by w (f x) + n) (sum_flat w f xs) ∙ sym (sum_by-cons (λ y. sum_by w (f y)) x xs)

one_weight : (w : Entry → ℕ) (xs : List Entry) (e : Entry) → length xs ≤ 1 → Among e xs → sum_by w xs ≡ w e
one_weight w [] e few among = absurd among
one_weight w (x ∷ []) e few (inl here) = let whole = sum_by-cons w x [] in let same = ap (λ (y : Entry). w y) here in omega (arith, whole, same)
one_weight w (x ∷ []) e few (inr there) = absurd there
one_weight w (x ∷ y ∷ xs) e few among = absurd (omega arith)

no_weight : (w : Entry → ℕ) (xs : List Entry) → ((e : Entry) → Among e xs → ⊥) → sum_by w xs ≡ 0
no_weight w [] none = refl
no_weight w (x ∷ xs) none = absurd (none x (inl refl))

module _ (parents : Parents) (tree : IsTree parents) (w : Entry → ℕ) where
  -- the entry that a version sees of a group decides the group's key
  group_decides : (group : List Entry) → is_ascending group ≡ true → (key : List ℕ) → ((e : Entry) → Among e group → e.key ≡ key) → (v : ℕ)
      → deciding parents group key v ≡ find (λ e. is_ancestor parents e.version v) group
  group_decides group up key keyed v =
      deciding_group parents tree group up key v
      ∙ ap (λ (es : List Entry). find (λ e. is_ancestor parents e.version v) es) (filter_every (is_of key) group (λ e among. same_bytes e.key key (keyed e among)))

  group_weight : (group : List Entry) → is_ascending group ≡ true → is_single group ≡ true → ((e d : Entry) → Among e group → Among d group → e.key ≡ d.key) → (v : ℕ)
      → sum_by w (live parents group v) ≡ weight_seen parents w v group
  group_weight group up single keyed v =
      elim (option_cases (find (λ e. is_ancestor parents e.version v) group)) [
        | inl none ↦
            no_weight w (live parents group v) (λ e among.
            let kept = filter_among (is_live parents group v) group e among in
            true≢false (sym (among_ancestor parents tree e.version v (live_on_path parents tree group v e kept.1)) ∙ find_none (λ d. is_ancestor parents d.version v) group e none kept.0))
            ∙ sym (ap (λ (o : Option Entry). option_map_or w o 0) none)
        | inr found ↦
            let e = found.0 in
            let at = find_some (λ d. is_ancestor parents d.version v) group e found.1 in
            let decided = group_decides group up e.key (λ d among. keyed d e among at.0) v ∙ found.1 in
            let decides = deciding_some parents tree group e.key v e decided in
            let lives = among_filter (is_live parents group v) group e at.0 (decides_live parents tree group e.key v e decides) in
            let all = ap (λ (es : List Entry). length es) (filter_every (is_of e.key) (live parents group v) (λ d among.
            same_bytes d.key e.key (keyed d e (filter_among (is_live parents group v) group d among).0 at.0))) in
            let few = live_few parents tree group e.key v single in
            one_weight w (live parents group v) e (omega (arith, all, few)) lives
            ∙ sym (ap (λ (o : Option Entry). option_map_or w o 0) found.1)
      ]

  -- what is live weighs as much as what is seen, group by group
  pub groups_weigh : (groups : List (List Entry)) → AreGroups groups → (v : ℕ) → sum_by w (live parents (grouped_entries groups) v) ≡ weights_seen parents w groups v
  groups_weigh groups grouped v =
      ap (λ (es : List Entry). sum_by w es) (live_groups parents tree groups grouped v)
      ∙ sum_flat w (λ (group : List Entry). live parents group v) groups
      ∙ sum_same (λ (group : List Entry). sum_by w (live parents group v)) (weight_seen parents w v) groups
      (λ group among. group_weight group (group_ascending groups group grouped.ascending among) (group_single groups grouped group among) (λ e d a b. group_key groups grouped group among e d a b) v)

  at_version : (group : List Entry) (key : List ℕ) → ((e : Entry) → Among e group → e.key ≡ key) → (v : ℕ) → find (is_at key v) group ≡ find (λ e. eqb e.version v) group
  at_version [] key keyed v = refl
  at_version (e ∷ group) key keyed v =
      ap (λ (b : Bool). cond (b && eqb e.version v) (Some e) (find (is_at key v) group)) (same_bytes e.key key (keyed e (inl refl)))
      ∙ ap (λ (o : Option Entry). cond (eqb e.version v) (Some e) o) (at_version group key (λ d among. keyed d (inr among)) v)

  first_key : List Entry → List ℕ
  first_key [] = []
  first_key (e ∷ group) = e.key

  has_first : (group : List Entry) → ((e d : Entry) → Among e group → Among d group → e.key ≡ d.key) → (e : Entry) → Among e group → e.key ≡ first_key group
  unfolding first_key
  has_first [] keyed e among = absurd among
  has_first (x ∷ group) keyed e among = keyed e x among (inl refl)

  -- a version sees its own entry of a key, or what its parent sees
  group_step : (group : List Entry) → is_ascending group ≡ true → ((e d : Entry) → Among e group → Among d group → e.key ≡ d.key) → (v p : ℕ) → parent_of parents v ≡ Some p
      → weight_seen parents w v group + lost_weight parents w v group ≡ weight_seen parents w p group + own_weight w v group
  group_step group up keyed v p some =
      let key = first_key group in
      let mine = has_first group keyed in
      let at_v = sym (group_decides group up key mine v) ∙ deciding_up parents tree group key v p some in
      let at_p = group_decides group up key mine p in
      let own = at_version group key mine v in
      elim (option_cases (find (is_at key v) group)) [
        | inl none ↦
            let nothing : find (λ e. eqb e.version v) group ≡ None = sym own ∙ none in
            let absent : list_any (λ e. eqb e.version v) group ≡ false = elim (cases_Bool (list_any (λ e. eqb e.version v) group)) [
              | inl yes' ↦ let found = any_among (λ (e : Entry). eqb e.version v) group yes' in absurd (true≢false (sym found.2 ∙ find_none (λ (e : Entry). eqb e.version v) group found.0 nothing found.1))
              | inr no' ↦ no'
            ] in
            let seen : find (λ e. is_ancestor parents e.version v) group ≡ find (λ e. is_ancestor parents e.version p) group =
            at_v ∙ ap (λ (o : Option Entry). option_or o (deciding parents group key p)) none ∙ at_p in
            let a = ap (λ (o : Option Entry). option_map_or w o 0) seen in
            let b = ap {B = ℕ} (λ (x : Bool). cond x (option_map_or (λ q. weight_seen parents w q group) (parent_of parents v) 0) 0) absent in
            let c = ap (λ (o : Option Entry). option_map_or w o 0) nothing in
            omega (arith, a, b, c)
        | inr found ↦
            let there : find (λ e. eqb e.version v) group ≡ Some found.0 = sym own ∙ found.1 in
            let at = find_some (λ (e : Entry). eqb e.version v) group found.0 there in
            let present : list_any (λ e. eqb e.version v) group ≡ true = any_from (λ (e : Entry). eqb e.version v) found.0 group at.0 at.1 in
            let seen : find (λ e. is_ancestor parents e.version v) group ≡ Some found.0 = at_v ∙ ap (λ (o : Option Entry). option_or o (deciding parents group key p)) found.1 in
            let a = ap (λ (o : Option Entry). option_map_or w o 0) seen in
            let b = ap {B = ℕ} (λ (x : Bool). cond x (option_map_or (λ q. weight_seen parents w q group) (parent_of parents v) 0) 0) present in
            let d = ap {B = ℕ} (λ (o : Option ℕ). option_map_or (λ q. weight_seen parents w q group) o 0) some in
            let c = ap (λ (o : Option Entry). option_map_or w o 0) there in
            omega (arith, a, b, c, d)
      ]

  sum_both : {X : Type 0} (f g h k : X → ℕ) (xs : List X) → ((x : X) → Among x xs → f x + g x ≡ h x + k x) → sum_by f xs + sum_by g xs ≡ sum_by h xs + sum_by k xs
  sum_both f g h k [] each = refl
  sum_both f g h k (x ∷ xs) each =
      let here = each x (inl refl) in
      let rest = sum_both f g h k xs (λ y among. each y (inr among)) in
      let a = sum_by-cons f x xs in
      let b = sum_by-cons g x xs in
      let c = sum_by-cons h x xs in
      let d = sum_by-cons k x xs in
      omega (arith, here, rest, a, b, c, d)

  pub weights_step : (groups : List (List Entry)) → AreGroups groups → (v p : ℕ) → parent_of parents v ≡ Some p
      → weights_seen parents w groups v + sum_by (lost_weight parents w v) groups ≡ weights_seen parents w groups p + sum_by (own_weight w v) groups
  weights_step groups grouped v p some =
      sum_both (weight_seen parents w v) (lost_weight parents w v) (weight_seen parents w p) (own_weight w v) groups
      (λ group among. group_step group (group_ascending groups group grouped.ascending among) (λ e d a b. group_key groups grouped group among e d a b) v p some)

  pub weights_root : (groups : List (List Entry)) → AreGroups groups → (v : ℕ) → parent_of parents v ≡ None
      → weights_seen parents w groups v ≡ sum_by (own_weight w v) groups
  weights_root groups grouped v none =
      sum_same (weight_seen parents w v) (own_weight w v) groups (λ group among.
      let up = group_ascending groups group grouped.ascending among in
      let keyed : (e d : Entry) → Among e group → Among d group → e.key ≡ d.key = λ e d a b. group_key groups grouped group among e d a b in
      let key = first_key group in
      let mine = has_first group keyed in
      ap (λ (o : Option Entry). option_map_or w o 0)
      (sym (group_decides group up key mine v) ∙ deciding_root parents tree group key v none ∙ or_none (find (is_at key v) group) ∙ at_version group key mine v))
    where
      or_none : (o : Option Entry) → option_or o None ≡ o
      or_none None = refl
      or_none (Some e) = refl

-- the versions of groups tell what their entries weigh, and how many keys are seen

find_map : {X Y : Type 0} (p : Y → Bool) (f : X → Y) (xs : List X) → find p (map f xs) ≡ option_map f (find (λ x. p (f x)) xs)
find_map p f [] = refl
find_map {X} {Y} p f (x ∷ xs) =
    elim (p (f x)) as (λ b. cond b (Some (f x)) (find p (map f xs)) ≡ option_map f (cond b (Some x) (find (λ y. p (f y)) xs))) [
      | true ↦ refl
      | false ↦ find_map p f xs
    ]

mapped_or : {X : Type 0} (f : X → ℕ) (o : Option X) → option_map_or suc (option_map f o) 0 ≡ option_map_or (λ x. suc (f x)) o 0
mapped_or f None = refl
mapped_or f (Some x) = refl

pub versions_weigh : (parents : Parents) (groups : List (List Entry)) (v : ℕ) → weights_seen parents weight_of groups v ≡ nearest_sum parents (group_versions groups) v
versions_weigh parents groups v =
    sum_same (weight_seen parents weight_of v) (λ group. nearest_at parents v (map (λ e. e.version) group)) groups (λ group among.
    sym (ap (λ (o : Option ℕ). option_map_or suc o 0) (find_map (λ u. is_ancestor parents u v) (λ (e : Entry). e.version) group)
    ∙ mapped_or (λ (e : Entry). e.version) (find (λ e. is_ancestor parents e.version v) group)))
    ∙ sym (sum_map (nearest_at parents v) (λ (group : List Entry). map (λ e. e.version) group) groups)

ones : (xs : List Entry) → sum_by (λ e. 1) xs ≡ length xs
ones [] = refl
ones (x ∷ xs) = let rest = ones xs in let whole = sum_by-cons (λ (e : Entry). 1) x xs in omega (arith, rest, whole)

pub versions_count : (parents : Parents) → IsTree parents → (groups : List (List Entry)) → AreGroups groups → (v : ℕ) → weights_seen parents (λ e. 1) groups v ≡ keys_at parents (group_versions groups) v
versions_count parents tree groups grouped v =
    sym (groups_weigh parents tree (λ e. 1) groups grouped v) ∙ ones (live parents (grouped_entries groups) v) ∙ live_count parents tree groups grouped v
