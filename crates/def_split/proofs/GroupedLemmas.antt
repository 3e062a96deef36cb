-- What is said of the entries of one group is said of the entries of all.
use Rattle.std.proofs.Common.{◌≡◌, ℕ, Bool, true, eqb, ◌||◌, not, ◌⊎◌, inl, inr, List, [], ◌∷◌, ◌++◌, length, filter, Option, Some, None, refl, sym, ap, ◌∙◌, subst, true≢false}
use Rattle.std.specs.List.{list_any, list_all, flat_map, range_with_len}
use Rattle.std.specs.Ordering.{is_lt}
use Rattle.std.proofs.lemmas.Bool.{and_parts, and_from, not-true}
use Rattle.std.proofs.lemmas.List.Elements.{filter-append}
use Rattle.strat_base.specs.Order.{entry_cmp}
use Rattle.strat_base.specs.Tree.{Parents, IsTree}
use Rattle.strat_base.specs.Entries.{Entry, is_of, is_single, is_ascending}
use Rattle.def_state.specs.Live.{is_live, live}
use Rattle.def_state.specs.Level.{TaggedArray}
use Rattle.strat_base.proofs.ListFacts.{Among, any_from, all_at, all_from, among_left, among_in_flat, among_split, map_same}
use Rattle.strat_base.proofs.EntryLemmas.{same_bytes, is_of_key}
use Rattle.def_state.proofs.LiveLemmas.{live_on_path, live_nearest}
use Rattle.def_state.proofs.LevelLemmas.{ascending_single}
use Rattle.def_split.specs.Plan.{Plan, part_of, part_at}
use Rattle.def_split.specs.Planned.{is_inherited, is_taken, planned_level, array_of_part}
use Rattle.def_split.specs.Groups.{grouped_entries, has_one_key, are_keyed_apart, AreGroups, array_of_groups, level_of_groups}
use Rattle.def_split.proofs.ListLemmas.{bool_same, filter_same}
use Rattle.def_split.proofs.LiveSetLemmas.{live_from, live_fewer}

-- a group is in order where all are
ascending_parts : (xs ys : List Entry) → is_ascending (xs ++ ys) ≡ true → (is_ascending xs ≡ true) × (is_ascending ys ≡ true)
ascending_parts [] ys up = (refl, up)
ascending_parts (e ∷ xs) ys up =
    let parts = and_parts (list_all (λ later. is_lt (entry_cmp e.key e.version later.key later.version)) (xs ++ ys)) (is_ascending (xs ++ ys)) up in
    let rest = ascending_parts xs ys parts.1 in (
      and_from (list_all (λ later. is_lt (entry_cmp e.key e.version later.key later.version)) xs) (is_ascending xs)
          (all_from (λ later. is_lt (entry_cmp e.key e.version later.key later.version)) xs (λ d among.
          all_at (λ later. is_lt (entry_cmp e.key e.version later.key later.version)) d (xs ++ ys) parts.0 (among_left xs ys d among)))
          rest.0,
      rest.1,
    )

pub group_ascending : (groups : List (List Entry)) (group : List Entry) → is_ascending (grouped_entries groups) ≡ true → Among group groups → is_ascending group ≡ true
group_ascending [] group up among = absurd among
group_ascending (first ∷ groups) group up (inl here) = ap is_ascending here ∙ (ascending_parts first (grouped_entries groups) up).0
group_ascending (first ∷ groups) group up (inr there) = group_ascending groups group (ascending_parts first (grouped_entries groups) up).1 there

pub group_single : (groups : List (List Entry)) → AreGroups groups → (group : List Entry) → Among group groups → is_single group ≡ true
group_single groups grouped group among = ascending_single group (group_ascending groups group grouped.ascending among)

-- two entries of a group have one key
pub group_key : (groups : List (List Entry)) → AreGroups groups → (group : List Entry) → Among group groups → (e d : Entry) → Among e group → Among d group → e.key ≡ d.key
group_key groups grouped group among e d a b = go group (all_at has_one_key group groups grouped.keyed among) a b
  where
    go : (entries : List Entry) → has_one_key entries ≡ true → Among e entries → Among d entries → e.key ≡ d.key
    go [] one a b = absurd a
    go (x ∷ entries) one a b = at e a ∙ sym (at d b)
      where
        at : (y : Entry) → Among y (x ∷ entries) → y.key ≡ x.key
        at y (inl here) = ap (λ (z : Entry). z.key) here
        at y (inr there) = is_of_key x.key y (all_at (is_of x.key) y entries one there)

-- an entry with the key of one in a group is in that group
pub same_group : (groups : List (List Entry)) → are_keyed_apart groups ≡ true → (group : List Entry) → Among group groups → (e d : Entry) → Among e group → Among d (grouped_entries groups) → d.key ≡ e.key → Among d group
same_group [] apart group among e d a b same = absurd among
same_group (first ∷ groups) apart group among e d a b same =
    go (λ there inside. same_group groups parts.1 group there e d a inside same) among (among_split first (grouped_entries groups) d b)
  where
    parts : (list_all (λ x. not (list_any (is_of x.key) (grouped_entries groups))) first ≡ true) × (are_keyed_apart groups ≡ true)
    parts = and_parts (list_all (λ x. not (list_any (is_of x.key) (grouped_entries groups))) first) (are_keyed_apart groups) apart

    clash : (x y : Entry) → Among x first → Among y (grouped_entries groups) → y.key ≡ x.key → ⊥
    clash x y one other equal =
        true≢false (sym (any_from (is_of x.key) y (grouped_entries groups) other (same_bytes y.key x.key equal))
        ∙ not-true (list_any (is_of x.key) (grouped_entries groups)) (all_at (λ z. not (list_any (is_of z.key) (grouped_entries groups))) x first parts.0 one))

    go : (Among group groups → Among d (grouped_entries groups) → Among d group) → Among group (first ∷ groups) → Among d first ⊎ Among d (grouped_entries groups) → Among d group
    go rest (inl here) (inl one) = subst (λ (es : List Entry). Among d es) (sym here) one
    go rest (inl here) (inr other) = absurd (clash e d (subst (λ (es : List Entry). Among e es) here a) other same)
    go rest (inr there) (inl one) = absurd (clash d e one (among_in_flat (λ g. g) groups group e there a) (sym same))
    go rest (inr there) (inr other) = rest there other

-- a test of all elements is a test in each list
pub filter_groups : {X : Type 0} (p : X → Bool) (q : List X → X → Bool) (lists : List (List X)) → ((list : List X) → Among list lists → (x : X) → Among x list → p x ≡ q list x)
    → filter p (flat_map (λ list. list) lists) ≡ flat_map (λ list. filter (q list) list) lists
filter_groups p q [] each = refl
filter_groups p q (list ∷ lists) each =
    let here : filter p list ≡ filter (q list) list = filter_same p (q list) list (λ x among. each list (inl refl) x among) in
    let rest : filter p (flat_map (λ l. l) lists) ≡ flat_map (λ l. filter (q l) l) lists = filter_groups p q lists (λ l among. each l (inr among)) in
    filter-append p list (flat_map (λ l. l) lists) ∙ (λ i. here i ++ rest i)

module _ (parents : Parents) (tree : IsTree parents) (groups : List (List Entry)) (grouped : AreGroups groups) where
  -- an entry is live among all where it is live in its group
  pub live_in_group : (group : List Entry) → Among group groups → (v : ℕ) (e : Entry) → Among e group → is_live parents (grouped_entries groups) v e ≡ is_live parents group v e
  live_in_group group among v e there =
      bool_same (is_live parents (grouped_entries groups) v e) (is_live parents group v e)
      (live_fewer parents tree (grouped_entries groups) group v e (λ d inside. among_in_flat (λ g. g) groups group d among inside))
      (λ lives.
      live_from parents tree (grouped_entries groups) v e (live_on_path parents tree group v e lives) (λ d inside same on lt.
      live_nearest parents tree group v e d lives (same_group groups grouped.apart group among e d there inside same) same on lt))

  pub live_groups : (v : ℕ) → live parents (grouped_entries groups) v ≡ flat_map (λ group. live parents group v) groups
  live_groups v = filter_groups (is_live parents (grouped_entries groups) v) (λ group. is_live parents group v) groups (λ group among e there. live_in_group group among v e there)

  pub taken_in_group : (plan : Plan) (q : ℕ) (group : List Entry) → Among group groups → (e : Entry) → Among e group → is_taken parents plan (grouped_entries groups) q e ≡ is_taken parents plan group q e
  taken_in_group plan q group among e there = ap (λ (b : Bool). eqb (part_of plan e.version) q || b) (go (part_at plan q).above)
    where
      go : (above : Option ℕ) → is_inherited parents (grouped_entries groups) above e ≡ is_inherited parents group above e
      go None = refl
      go (Some p) = live_in_group group among p e there

  pub content_groups : (plan : Plan) (q : ℕ) → filter (is_taken parents plan (grouped_entries groups) q) (grouped_entries groups) ≡ flat_map (λ group. filter (is_taken parents plan group q) group) groups
  content_groups plan q =
      filter_groups (is_taken parents plan (grouped_entries groups) q) (λ group. is_taken parents plan group q) groups (λ group among e there. taken_in_group plan q group among e there)

  -- the level that is filled group by group is the level of all entries
  pub level_groups : (plan : Plan) (number first : ℕ) → planned_level parents (grouped_entries groups) plan number first ≡ level_of_groups parents groups plan number first
  level_groups plan number first =
      let arrays = map_same (array_of_part parents (grouped_entries groups) plan first) (array_of_groups parents groups plan first) (range_with_len 0 (length plan.parts))
      (λ q among. ap (λ (content : List Entry). record (array_of_groups parents groups plan first q) { content = content }) (content_groups plan q)) in
      ap (λ (made : List TaggedArray). record (level_of_groups parents groups plan number first) { arrays = made }) arrays
