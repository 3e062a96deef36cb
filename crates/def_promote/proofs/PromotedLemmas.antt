-- A planned level replaces what it was merged from.
use Rattle.std.proofs.Common.{◌≡◌, ◌+◌, ◌<◌, ◌≤◌, ◌*◌, ◌^◌, ℕ, Bool, true, false, ◌||◌, not, inl, inr, List, [], ◌∷◌, ◌++◌, length, map, reverse, filter, Option, Some, None, is_some, refl, sym, ap, ◌∙◌, subst, arith, length-append, append-nil, true≢false}
use Rattle.std.proofs.lemmas.Bool.{and_parts, and_from, not-true, not_from_false, false_from_ne_true}
use Rattle.std.specs.List.{list_any, list_all, flat_map, find, AllByRecursion, sum_by}
use Rattle.std.specs.Option.{option_and_then, option_map_or}
use Rattle.std.proofs.lemmas.List.Concat.{length-flat_map}
use Rattle.std.proofs.lemmas.List.Folds.{flat_map-map}
use Rattle.strat_base.specs.Tree.{Parents, parent_of, IsTree}
use Rattle.strat_base.specs.Entries.{Entry, is_of, is_at, is_single, is_ascending, holds_entry}
use Rattle.def_state.specs.Maps.{value_over}
use Rattle.def_state.specs.Level.{Level, level_leads, IsStratified}
use Rattle.def_state.specs.Reading.{level_zero}
use Rattle.def_state.specs.State.{State, versions_of, journal_updates}
use Rattle.def_state.specs.Sound.{IsOrdered}
use Rattle.strat_base.proofs.ListFacts.{Among, among_left, among_right, among_split, among_flat, among_in_flat, find_some, find_none, filter_among, all_at, all_from, any_among, any_from}
use Rattle.strat_base.proofs.EntryLemmas.{same_bytes, is_of_key, is_at_key, held_among, among_held}
use Rattle.strat_base.proofs.ResultFacts.{option_cases}
use Rattle.def_state.proofs.LevelLemmas.{ascending_single}
use Rattle.def_state.proofs.SoundLemmas.{sound_tree, find-latest}
use Rattle.def_state.proofs.StepMaps.{known_sources}
use Rattle.def_split.specs.Plan.{Part, Plan, horizon_of}
use Rattle.def_split.specs.Planned.{array_of_part, planned_level, IsPlan}
use Rattle.def_split.specs.Groups.{grouped_entries, has_one_key, are_keyed_apart, AreGroups}
use Rattle.def_split.proofs.ListLemmas.{some_length, filter_ascending}
use Rattle.def_split.proofs.GroupedLemmas.{same_group, group_single, filter_groups, level_groups}
use Rattle.def_split.proofs.PlannedLemmas.{lead_served, made_among, lead_entry, entry_lead, rule_k, rule_m, plan_stratified}
use Rattle.def_split.proofs.SplitLemmas.{plan_of_groups}
use Rattle.def_promote.specs.Union.{IsUnion}
use Rattle.def_promote.specs.Purge.{is_valued, is_needed, purged, entries_over, groups_over}
use Rattle.def_promote.specs.Promoted.{SaysTheSame, told_by, promoted, level_if, Takeable, Promotes, fresh_after, levels_after, PromotesGroups, fresh_of_groups, levels_of_groups}
use Rattle.def_promote.specs.Replaced.{IsNewLevel, IsWorth, Replaces}
use Rattle.def_promote.proofs.UnionLemmas.{deciding_finds, find_before, find_at, find_alike, found_among, single_fits}
use Rattle.def_promote.proofs.PurgeLemmas.{purge_values}
use Rattle.def_promote.proofs.ReplacedLemmas.{over_among, replaced_says}

empty_list : {X : Type 0} (xs : List X) → ((x : X) → Among x xs → ⊥) → xs ≡ []
empty_list [] none = refl
empty_list (x ∷ xs) none = absurd (none x (inl refl))

over_ascends : (parents : Parents) (kept : List Level) (entries : List Entry) → is_ascending entries ≡ true → is_ascending (entries_over parents kept entries) ≡ true
over_ascends parents [] entries up = filter_ascending (is_needed parents entries) entries up
over_ascends parents (level ∷ kept) entries up = up

module _ (s : State) (sound : IsOrdered s) (j : ℕ) (taken kept : List Level) (entries : List Entry) (takes : Takeable s j taken kept) (union : IsUnion (told_by s taken) entries) where
  -- a union speaks of versions that there are
  pub union_known : (e : Entry) → Among e entries → e.version < length (versions_of s)
  union_known e among =
      let said = found_among entries (told_by s taken) union.first (ascending_single entries union.ascending) e among in
      known_sources s sound e
      (elim (among_split (reverse (journal_updates s)) (flat_map level_leads taken) e said) [
        | inl update ↦ among_left (reverse (journal_updates s)) (flat_map level_leads s.levels) e update
        | inr lead ↦
            let at = among_flat level_leads taken e lead in
            among_right (reverse (journal_updates s)) (flat_map level_leads s.levels) e
            (among_in_flat level_leads s.levels at.0 e (subst (λ (levels : List Level). Among at.0 levels) (sym takes.levels_are) (among_left taken kept at.0 at.1)) at.2)
      ])

  -- is no more than what it was merged from
  pub union_small : (xs : List Entry) → is_single xs ≡ true → ((e : Entry) → Among e xs → Among e entries) → length xs ≤ length (level_zero s) + sum_by (λ level. length (level_leads level)) taken
  union_small xs single inside =
      let found : (key : List ℕ) (u : ℕ) → find (is_at key u) entries ≡ find (is_at key u) (level_zero s ++ flat_map level_leads taken) =
      λ key u. union.first key u ∙ sym (find_before (level_zero s) (reverse (journal_updates s)) (flat_map level_leads taken) key u (find-latest key u (journal_updates s))) in
      let less = single_fits xs (level_zero s ++ flat_map level_leads taken) single (λ e among.
      found_among entries (level_zero s ++ flat_map level_leads taken) found (ascending_single entries union.ascending) e (inside e among)) in
      let whole = length-append (level_zero s) (flat_map level_leads taken) in
      let leads = length-flat_map level_leads taken in
      omega (arith, less, whole, leads)

  -- and has room in level j
  pub union_fits : (xs : List Entry) → is_single xs ≡ true → ((e : Entry) → Among e xs → Among e entries) → length xs ≤ s.mem * 2 ^ j
  union_fits xs single inside = let small = union_small xs single inside in let room = takes.room in omega (arith, small, room)

-- entries that are worth a union are planned
module _ (s : State) (sound : IsOrdered s) (j : ℕ) (taken kept : List Level) (entries over : List Entry) (plan : Plan) (first : ℕ) (takes : Takeable s j taken kept) (union : IsUnion (told_by s taken) entries)
    (worth : IsWorth s kept entries over) (up : is_ascending over ≡ true) (horizon : horizon_of plan ≡ length (versions_of s)) (split : IsPlan (versions_of s) over plan) where
  abbrev parents : Parents
  parents = versions_of s

  abbrev made : Level
  made = planned_level parents over plan j first

  tree : IsTree (versions_of s)
  tree = sound_tree s sound.formed

  inside : (e : Entry) → Among e over → Among e entries
  inside e among = held_among entries e (all_at (holds_entry entries) e over worth.inside among)

  low : (e : Entry) → Among e over → e.version < horizon_of plan
  low e among = let known = union_known s sound j taken kept entries takes union e (inside e among) in omega (arith, known, horizon)

  pub made_stratified : IsStratified parents made
  made_stratified = plan_stratified parents tree over plan low split j first up

  pub made_entry : (e : Entry) → Among e (level_leads made) → Among e over
  made_entry e among = lead_entry parents tree over plan low split j first up e among

  made_new : 0 < length plan.parts → IsNewLevel s j made
  made_new some = record {
    number = refl;
    horizon = horizon;
    filled = some_length made.arrays (array_of_part parents over plan first 0) (made_among parents tree over plan low split j first up 0 some);
    stratified = made_stratified;
    room = union_fits s sound j taken kept entries takes union (level_leads made) made_stratified.single (λ e among. inside e (made_entry e among));
    described = rule_k parents tree over plan low split j first up;
    ascending = rule_m parents tree over plan low split j first up;
  }

  made_leads : (key : List ℕ) (u : ℕ) → find (is_at key u) (level_leads made) ≡ find (is_at key u) over
  made_leads key u =
      find_alike (level_leads made) over made_stratified.single (ascending_single over up)
      (lead_entry parents tree over plan low split j first up) (entry_lead parents tree over plan low split j first up) key u

  if_new : (parts : List Part) → plan.parts ≡ parts → AllByRecursion (IsNewLevel s j) (level_if parts made)
  if_new [] are = tt
  if_new (part ∷ parts) are = let size = ap (λ (ps : List Part). length ps) are in (made_new (omega (arith, size)), tt)

  if_one : (parts : List Part) → length (level_if parts made) ≤ 1
  if_one [] = omega arith
  if_one (part ∷ parts) = omega arith

  if_leads : (parts : List Part) → plan.parts ≡ parts → (key : List ℕ) (u : ℕ) → find (is_at key u) (flat_map level_leads (level_if parts made)) ≡ find (is_at key u) over
  if_leads [] are key u =
      let none : over ≡ [] = empty_list over (λ e among. let served = lead_served parents tree over plan low split e among in let size = ap (λ (ps : List Part). length ps) are in omega (arith, served, size)) in
      ap (λ (es : List Entry). find (is_at key u) es) (sym none)
  if_leads (part ∷ parts) are key u = ap (λ (es : List Entry). find (is_at key u) es) (append-nil (level_leads made)) ∙ made_leads key u

  pub planned_replaces : Replaces s j taken kept (level_if plan.parts made) entries over
  planned_replaces = record {
    takes = takes;
    union = union;
    one = if_one plan.parts;
    each = if_new plan.parts refl;
    leads = if_leads plan.parts refl;
    worth = worth;
  }

module _ (s : State) (sound : IsOrdered s) (j : ℕ) (taken kept : List Level) (entries : List Entry) (plan : Plan) (first : ℕ) (r : Promotes s j taken kept entries plan) where
  abbrev versions : Parents
  versions = versions_of s

  abbrev over : List Entry
  over = entries_over versions kept entries

  abbrev level_made : Level
  level_made = planned_level versions over plan j first

  over_worth : (below : List Level) (v : ℕ) (key : List ℕ) → value_over versions (entries_over versions below entries ++ flat_map level_leads below) v key ≡ value_over versions (entries ++ flat_map level_leads below) v key
  over_worth [] v key =
      ap (λ (es : List Entry). value_over versions es v key) (append-nil (purged versions entries))
      ∙ purge_values versions (sound_tree s sound.formed) entries (ascending_single entries r.union.ascending) key v
      ∙ sym (ap (λ (es : List Entry). value_over versions es v key) (append-nil entries))
  over_worth (level ∷ below) v key = refl

  worth : IsWorth s kept entries over
  worth = record {
    inside = all_from (holds_entry entries) over (λ e among. among_held entries e (over_among versions kept entries e among));
    values = λ v key living. over_worth kept v key;
  }

  pub promotion_replaces : Replaces s j taken kept (fresh_after s j kept entries plan first) entries over
  promotion_replaces = planned_replaces s sound j taken kept entries over plan first r.takes r.union worth (over_ascends versions kept entries r.union.ascending) r.horizon r.split

  pub promotion_says : (written next_array : ℕ) → SaysTheSame s (promoted s (levels_after s j kept entries plan first) written next_array)
  promotion_says written next_array = replaced_says s sound j taken kept (level_if plan.parts level_made) entries over promotion_replaces written next_array

-- group by group

module _ (parents : Parents) (groups : List (List Entry)) (grouped : AreGroups groups) where
  -- the entries of a key are found in its group
  pub find_in_group : (group : List Entry) → Among group groups → (e : Entry) → Among e group → (u : ℕ) → find (is_at e.key u) (grouped_entries groups) ≡ find (is_at e.key u) group
  find_in_group group among e there u =
      elim (option_cases (find (is_at e.key u) (grouped_entries groups))) [
        | inl none ↦
            elim (option_cases (find (is_at e.key u) group)) [
              | inl nothing ↦ none ∙ sym nothing
              | inr found ↦
                  let at = find_some (is_at e.key u) group found.0 found.1 in
                  absurd (true≢false (sym at.1 ∙ find_none (is_at e.key u) (grouped_entries groups) found.0 none (among_in_flat (λ g. g) groups group found.0 among at.0)))
            ]
        | inr found ↦
            let at = find_some (is_at e.key u) (grouped_entries groups) found.0 found.1 in
            let inside = same_group groups grouped.apart group among e found.0 there at.0 (is_at_key e.key u found.0 at.1) in
            found.1 ∙ sym (find_at group e.key u found.0 (group_single groups grouped group among) inside at.1)
      ]

  needed_in_group : (group : List Entry) → Among group groups → (e : Entry) → Among e group → is_needed parents (grouped_entries groups) e ≡ is_needed parents group e
  needed_in_group group among e there =
      ap (λ (b : Bool). is_some e.value || b) (go (parent_of parents e.version))
    where
      go : (o : Option ℕ) → option_map_or (λ p. is_valued parents (grouped_entries groups) e.key p) o false ≡ option_map_or (λ p. is_valued parents group e.key p) o false
      go None = refl
      go (Some p) = ap (λ (d : Option Entry). is_some (option_and_then (λ x. x.value) d)) (deciding_finds parents (grouped_entries groups) group e.key (λ u. find_in_group group among e there u) p)

  pub purged_groups : grouped_entries (map (purged parents) groups) ≡ purged parents (grouped_entries groups)
  purged_groups =
      flat_map-map (λ (group : List Entry). group) (purged parents) groups
      ∙ sym (filter_groups (is_needed parents (grouped_entries groups)) (λ group. is_needed parents group) groups (λ group among e there. needed_in_group group among e there))

  pub over_groups : (kept : List Level) → grouped_entries (groups_over parents kept groups) ≡ entries_over parents kept (grouped_entries groups)
  over_groups [] = purged_groups
  over_groups (level ∷ kept) = refl

-- groups from which entries are dropped are groups
pub kept_keyed : (p : List Entry → Entry → Bool) (groups : List (List Entry)) → list_all has_one_key groups ≡ true → list_all has_one_key (map (λ group. filter (p group) group) groups) ≡ true
kept_keyed p [] keyed = refl
kept_keyed p (group ∷ groups) keyed =
    let parts = and_parts (has_one_key group) (list_all has_one_key groups) keyed in
    and_from (has_one_key (filter (p group) group)) (list_all has_one_key (map (λ g. filter (p g) g) groups)) (filter_key (p group) group parts.0) (kept_keyed p groups parts.1)
  where
    filter_key : (q : Entry → Bool) (entries : List Entry) → has_one_key entries ≡ true → has_one_key (filter q entries) ≡ true
    filter_key q [] one = refl
    filter_key q (e ∷ entries) one = go (filter q (e ∷ entries)) (λ d among. (filter_among q (e ∷ entries) d among).0)
      where
        key_of : (d : Entry) → Among d (e ∷ entries) → d.key ≡ e.key
        key_of d (inl here) = ap (λ (x : Entry). x.key) here
        key_of d (inr there) = is_of_key e.key d (all_at (is_of e.key) d entries one there)

        go : (es : List Entry) → ((d : Entry) → Among d es → Among d (e ∷ entries)) → has_one_key es ≡ true
        go [] inside = refl
        go (x ∷ es) inside = all_from (is_of x.key) es (λ d among. same_bytes d.key x.key (key_of d (inside d (inr among)) ∙ sym (key_of x (inside x (inl refl)))))

pub kept_apart : (p : List Entry → Entry → Bool) (groups : List (List Entry)) → are_keyed_apart groups ≡ true → are_keyed_apart (map (λ group. filter (p group) group) groups) ≡ true
kept_apart p [] apart = refl
kept_apart p (group ∷ groups) apart =
    let parts = and_parts (list_all (λ e. not (list_any (is_of e.key) (grouped_entries groups))) group) (are_keyed_apart groups) apart in
    let fewer : List Entry = grouped_entries (map (λ g. filter (p g) g) groups) in
    and_from (list_all (λ e. not (list_any (is_of e.key) (grouped_entries (map (λ g. filter (p g) g) groups)))) (filter (p group) group)) (are_keyed_apart (map (λ g. filter (p g) g) groups))
    (all_from (λ e. not (list_any (is_of e.key) (grouped_entries (map (λ g. filter (p g) g) groups)))) (filter (p group) group) (λ e here.
    not_from_false (list_any (is_of e.key) (grouped_entries (map (λ g. filter (p g) g) groups))) (false_from_ne_true (list_any (is_of e.key) (grouped_entries (map (λ g. filter (p g) g) groups))) (λ any.
    let found = any_among (is_of e.key) (grouped_entries (map (λ g. filter (p g) g) groups)) any in
    let before = kept_before groups found.0 found.1 in
    true≢false (sym (any_from (is_of e.key) found.0 (grouped_entries groups) before found.2)
    ∙ not-true (list_any (is_of e.key) (grouped_entries groups)) (all_at (λ x. not (list_any (is_of x.key) (grouped_entries groups))) e group parts.0 (filter_among (p group) group e here).0))))))
    (kept_apart p groups parts.1)
  where
    kept_before : (lists : List (List Entry)) (d : Entry) → Among d (grouped_entries (map (λ g. filter (p g) g) lists)) → Among d (grouped_entries lists)
    kept_before [] d among = absurd among
    kept_before (list ∷ lists) d among =
        elim (among_split (filter (p list) list) (grouped_entries (map (λ g. filter (p g) g) lists)) d among) [
          | inl here ↦ among_left list (grouped_entries lists) d (filter_among (p list) list d here).0
          | inr there ↦ among_right list (grouped_entries lists) d (kept_before lists d there)
        ]

pub over_are : (parents : Parents) (kept : List Level) (groups : List (List Entry)) → AreGroups groups → AreGroups (groups_over parents kept groups)
over_are parents [] groups grouped = record {
  keyed = kept_keyed (λ group. is_needed parents group) groups grouped.keyed;
  apart = kept_apart (λ group. is_needed parents group) groups grouped.apart;
  ascending = ap is_ascending (purged_groups parents groups grouped) ∙ filter_ascending (is_needed parents (grouped_entries groups)) (grouped_entries groups) grouped.ascending;
}
over_are _ (level ∷ kept) groups grouped = grouped

module _ (s : State) (sound : IsOrdered s) (j : ℕ) (taken kept : List Level) (groups : List (List Entry)) (own seen : ℕ → ℕ) (plan : Plan) (first : ℕ) (r : PromotesGroups s j taken kept groups own seen plan) where
  pub groups_promote : Promotes s j taken kept (grouped_entries groups) plan
  groups_promote = record {
    takes = r.takes;
    union = r.union;
    horizon = r.horizon;
    split =
        subst (λ (es : List Entry). IsPlan (versions_of s) es plan) (over_groups (versions_of s) groups r.grouped kept)
        (plan_of_groups (versions_of s) (sound_tree s sound.formed) (groups_over (versions_of s) kept groups) own seen plan r.split).1;
  }

  pub groups_fresh : fresh_of_groups s j kept groups plan first ≡ fresh_after s j kept (grouped_entries groups) plan first
  groups_fresh =
      ap (λ (level : Level). level_if plan.parts level)
      (sym (level_groups (versions_of s) (sound_tree s sound.formed) (groups_over (versions_of s) kept groups) r.split.grouped plan j first)
      ∙ ap (λ (es : List Entry). planned_level (versions_of s) es plan j first) (over_groups (versions_of s) groups r.grouped kept))

  pub groups_levels : levels_of_groups s j kept groups plan first ≡ levels_after s j kept (grouped_entries groups) plan first
  groups_levels = ap (λ (fresh : List Level). fresh ++ kept) groups_fresh

  pub groups_replace : Replaces s j taken kept (fresh_of_groups s j kept groups plan first) (grouped_entries groups) (entries_over (versions_of s) kept (grouped_entries groups))
  groups_replace =
      subst (λ (fresh : List Level). Replaces s j taken kept fresh (grouped_entries groups) (entries_over (versions_of s) kept (grouped_entries groups))) (sym groups_fresh)
      (promotion_replaces s sound j taken kept (grouped_entries groups) plan first groups_promote)

  pub groups_say : (written next_array : ℕ) → SaysTheSame s (promoted s (levels_of_groups s j kept groups plan first) written next_array)
  groups_say written next_array = replaced_says s sound j taken kept (fresh_of_groups s j kept groups plan first) (grouped_entries groups) (entries_over (versions_of s) kept (grouped_entries groups)) groups_replace written next_array
