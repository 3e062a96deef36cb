-- A compaction leaves a state that says the same, stores little and is paid for.
use Rattle.std.proofs.Common.{◌≡◌, ◌<◌, ◌≤◌, ◌+◌, ◌*◌, ◌^◌, ◌-◌, ℕ, Bool, true, false, cond, not, eqb, leb, ◌||◌, inl, inr, List, [], ◌∷◌, length, map, refl, sym, ap, ◌∙◌, subst, arith, append-nil}
use Rattle.std.specs.List.{list_all, sum_by}
use Rattle.std.proofs.lemmas.Bool.{leb-true, le-leb, not-true, or_right}
use Rattle.std.proofs.Math.Nat.{mul-le-mul_left, mul-le-mul_right}
use Rattle.strat_base.specs.Tree.{Parents, IsTree}
use Rattle.strat_base.specs.Marks.{is_dropped, ArePruned}
use Rattle.strat_base.specs.Entries.{Entry, is_ascending, holds_entry}
use Rattle.def_state.specs.Maps.{value_over, map_over}
use Rattle.def_state.specs.Level.{Level, level_leads}
use Rattle.def_state.specs.State.{State, versions_of, marks_of, journal_updates, sources, map_at, changes_of, stored, deep, IsPaid}
use Rattle.def_state.specs.Sound.{IsOrdered, IsSound}
use Rattle.strat_base.proofs.ListFacts.{all_from, filter_among}
use Rattle.strat_base.proofs.EntryLemmas.{among_held}
use Rattle.def_state.proofs.LevelLemmas.{ascending_single}
use Rattle.def_state.proofs.SoundLemmas.{sound_tree, sound_pruned, ordered}
use Rattle.def_state.proofs.SpaceLemmas.{arrays_led, deep_least}
use Rattle.def_state.proofs.ValueLemmas.{maps_same, value_found}
use Rattle.def_split.specs.Groups.{grouped_entries, SplitsGroups}
use Rattle.def_split.specs.Plan.{Part, Plan, horizon_of}
use Rattle.def_split.specs.Planned.{planned_level, IsPlan}
use Rattle.def_split.proofs.ListLemmas.{filter_ascending}
use Rattle.def_split.proofs.GroupedLemmas.{level_groups}
use Rattle.def_split.proofs.SplitLemmas.{plan_of_groups}
use Rattle.def_promote.specs.Thin.{is_telling}
use Rattle.def_promote.specs.Kept.{kept_over}
use Rattle.def_promote.specs.Merging.{runs_taken, Merges}
use Rattle.def_promote.specs.Promoted.{SaysTheSame, promoted, level_if, Takeable}
use Rattle.def_promote.specs.Replaced.{IsWorth, Replaces}
use Rattle.def_promote.specs.Compacted.{HasRoomForAll, thinned_in, Compacts, compact_level, CompactsGroups, compact_level_of_groups, compacted_to}
use Rattle.def_promote.proofs.MergingLemmas.{merged, runs_union}
use Rattle.def_promote.proofs.UnionLemmas.{single_fits}
use Rattle.def_promote.proofs.ReplacedLemmas.{replaced_says, replaced_sound}
use Rattle.def_promote.proofs.PromotedLemmas.{union_known, planned_replaces, made_stratified, made_entry}
use Rattle.def_promote.proofs.PaidLemmas.{updates_few, latest_few}
use Rattle.def_promote.proofs.ThinLemmas.{thin_values, thinned_groups}
use Rattle.def_promote.proofs.KeptLemmas.{thin_kept, kept_living}

-- what compactions wrote is no part of what a state says
recounted_says : (old s : State) (n : ℕ) → SaysTheSame old s → SaysTheSame old (record s { compacted = n })
recounted_says old s n same = record {
  mem = same.mem;
  changes_max = same.changes_max;
  versions_max = same.versions_max;
  versions = same.versions;
  marks = same.marks;
  maps = same.maps;
  updates = same.updates;
  changes = same.changes;
}

-- nor of soundness
recounted_sound : (s : State) (n : ℕ) → IsSound s → IsSound (record s { compacted = n })
recounted_sound s n sound = record {
  formed = record {
    tree = sound.formed.tree;
    pruned = sound.formed.pruned;
    numbered = sound.formed.numbered;
    accepted = sound.formed.accepted;
    fits = sound.formed.fits;
  };
  stratified = sound.stratified;
  roomy = sound.roomy;
  old = sound.old;
  settled = sound.settled;
  described = sound.described;
  few = sound.few;
  ascending = sound.ascending;
}

-- the level that all changes ask for has room for all, and is one of those that there are
pub room_for_all : (s : State) → IsOrdered s → 4 ≤ s.mem → s.updates ≤ s.changes → changes_of s ≤ 2 ^ 24 → HasRoomForAll s (deep s.mem (changes_of s))
room_for_all s sound mem honest few =
    let found = deep_least s.mem (changes_of s) (omega (arith, mem)) in
    let ample : 4 * 2 ^ 22 ≤ s.mem * 2 ^ 22 = mul-le-mul_right {m = 4} {n = s.mem} (2 ^ 22) mem in
    let whole : 2 ^ 24 ≡ 4 * 2 ^ 22 = refl in
    let fits : changes_of s ≤ s.mem * 2 ^ 22 = omega (arith, few, ample, whole) in
    let leads = leb-true (sum_by (λ level. length (level_leads level)) s.levels) s.updates sound.few in
    let initial = latest_few (journal_updates s) in
    let updates = updates_few s.journal in
    let room = found.1 in
    record {
      least = found.0;
      most = found.2 22 (omega arith) fits;
      room = omega (arith, leads, initial, updates, room, honest);
    }

-- groups that were merged from all that a state says are compacted, once their versions were split
pub merged_compact : (s : State) (j : ℕ) (groups : List (List Entry)) (own seen : ℕ → ℕ) (plan : Plan) → HasRoomForAll s j → Merges (runs_taken s s.levels) groups → horizon_of plan ≡ length (versions_of s)
    → SplitsGroups (versions_of s) (map (thinned_in s) groups) own seen plan → CompactsGroups s j groups own seen plan
merged_compact s j groups own seen plan room merges horizon split =
    let union = merged (runs_taken s s.levels) groups merges in
    record {
      room = room;
      union = runs_union s s.levels (grouped_entries groups) union.0;
      grouped = union.1;
      horizon = horizon;
      split = split;
    }

module _ (s : State) (sound : IsOrdered s) (j : ℕ) (entries : List Entry) (plan : Plan) (first : ℕ) (r : Compacts s j entries plan) where
  abbrev parents : Parents
  parents = versions_of s

  abbrev thin : List Entry
  thin = thinned_in s entries

  abbrev made : Level
  made = planned_level parents thin plan j first

  abbrev fresh : List Level
  fresh = compact_level s j entries plan first

  tree : IsTree (versions_of s)
  tree = sound_tree s sound.formed

  pruned : ArePruned (versions_of s) (marks_of s)
  pruned = sound_pruned s sound.formed

  takes : Takeable s j s.levels []
  takes = record {
    levels_are = sym (append-nil s.levels);
    least = r.room.least;
    most = r.room.most;
    deep = refl;
    room = r.room.room;
  }

  worth : IsWorth s [] entries thin
  worth = record {
    inside = all_from (holds_entry entries) thin (λ e among. among_held entries e (filter_among (is_telling parents (marks_of s) entries) entries e among).0);
    values = λ v key living.
        ap (λ (es : List Entry). value_over parents es v key) (append-nil thin)
        ∙ thin_values parents tree (marks_of s) pruned entries (ascending_single entries r.union.ascending) v key (not-true (is_dropped (marks_of s) v) living)
        ∙ sym (ap (λ (es : List Entry). value_over parents es v key) (append-nil entries));
  }

  up : is_ascending thin ≡ true
  up = filter_ascending (is_telling parents (marks_of s) entries) entries r.union.ascending

  pub compaction_replaces : Replaces s j s.levels [] fresh entries thin
  compaction_replaces = planned_replaces s sound j s.levels [] entries thin plan first takes r.union worth up r.horizon r.split

  pub compaction_says : (compacted next_array : ℕ) → SaysTheSame s (compacted_to s fresh compacted next_array)
  compaction_says compacted next_array =
      recounted_says s (promoted s fresh s.written next_array) compacted
      (subst (λ (levels : List Level). SaysTheSame s (promoted s levels s.written next_array)) (append-nil fresh)
      (replaced_says s sound j s.levels [] fresh entries thin compaction_replaces s.written next_array))

  -- the union has the maps of the state
  maps_are : (v : ℕ) → map_over parents entries v ≡ map_over parents (sources s) v
  maps_are v = maps_same parents parents tree tree (sources s) entries v v (λ q. value_found parents (sources s) entries (λ key u. r.union.first key u) v q)

  map_living : (v : ℕ) → is_dropped (marks_of s) v ≡ false → map_over parents entries v ≡ map_at s v
  map_living v living = maps_are v ∙ sym (ap (λ (b : Bool). cond (not b) (map_over parents (sources s) v) []) living)

  made_few : length (level_leads made) ≤ kept_over parents (marks_of s) (map_at s)
  made_few =
      let strat = made_stratified s sound j s.levels [] entries thin plan first takes r.union worth up r.horizon r.split in
      let fits = single_fits (level_leads made) thin strat.single (made_entry s sound j s.levels [] entries thin plan first takes r.union worth up r.horizon r.split) in
      let all = thin_kept parents tree (marks_of s) pruned entries (ascending_single entries r.union.ascending) (union_known s sound j s.levels [] entries takes r.union) in
      let same = kept_living parents tree (marks_of s) pruned (λ v. map_over parents entries v) (map_at s) map_living in
      omega (arith, fits, all, same)

  pub compaction_small : (compacted next_array : ℕ) → stored (compacted_to s fresh compacted next_array) ≤ 2 * kept_over parents (marks_of s) (map_at s)
  compaction_small compacted next_array = go plan.parts
    where
      go : (parts : List Part) → stored (compacted_to s (level_if parts made) compacted next_array) ≤ 2 * kept_over parents (marks_of s) (map_at s)
      go [] = omega arith
      go (part ∷ parts) =
          let strat = made_stratified s sound j s.levels [] entries thin plan first takes r.union worth up r.horizon r.split in
          let led = arrays_led made.arrays strat.led in
          let few = made_few in
          omega (arith, led, few)

  abbrev depth : ℕ
  depth = deep s.mem (changes_of s)

  abbrev ahead : List Part → ℕ
  ahead parts = sum_by (λ level. length (level_leads level) * (depth - level.number)) (level_if parts made)

  -- the target is the level that all changes ask for, so no lead has a level to go down
  pub compaction_paid : 0 < s.mem → IsPaid s → j ≡ deep s.mem (changes_of s) → (compacted next_array : ℕ) → IsPaid (compacted_to s fresh compacted next_array)
  compaction_paid some paid target compacted next_array = record {
    shallow = shallow plan.parts;
    bounded = le-leb (s.written + 4 * ahead plan.parts) (4 * depth * changes_of s) (bounded plan.parts);
  }
    where
      shallow : (parts : List Part) → list_all (λ level. eqb (length (level_leads level)) 0 || leb level.number depth) (level_if parts made) ≡ true
      shallow [] = refl
      shallow (part ∷ parts) =
          all_from (λ level. eqb (length (level_leads level)) 0 || leb level.number depth) (made ∷ []) (λ level among.
          elim among [
            | inl here ↦
                let number = ap (λ (l : Level). l.number) here in
                or_right (eqb (length (level_leads level)) 0) (leb level.number depth) (le-leb level.number depth (omega (arith, number, target)))
            | inr none ↦ absurd none
          ])

      nothing_ahead : (parts : List Part) → ahead parts ≡ 0
      nothing_ahead [] = refl
      nothing_ahead (part ∷ parts) =
          let down : depth - j ≡ 0 = omega (arith, target) in
          let term = ap (λ (k : ℕ). length (level_leads made) * k) down in
          omega (arith, term)

      bounded : (parts : List Part) → s.written + 4 * ahead parts ≤ 4 * depth * changes_of s
      bounded parts =
          let none = nothing_ahead parts in
          let was = leb-true (s.written + 4 * sum_by (λ level. length (level_leads level) * (deep s.mem s.changes - level.number)) s.levels) (4 * deep s.mem s.changes * s.changes) paid.bounded in
          let before = deep_least s.mem s.changes some in
          let after = deep_least s.mem (changes_of s) some in
          let last = after.1 in
          let grows : deep s.mem s.changes ≤ depth = before.2 depth after.0 (omega (arith, last)) in
          let one = mul-le-mul_right {m = 4 * deep s.mem s.changes} {n = 4 * depth} s.changes (omega (arith, grows)) in
          let two = mul-le-mul_left {m = s.changes} {n = changes_of s} (4 * depth) (omega arith) in
          omega (arith, none, was, one, two)

pub compaction_sound : (s : State) (sound : IsSound s) (j : ℕ) (entries : List Entry) (plan : Plan) (first : ℕ) (r : Compacts s j entries plan) (compacted next_array : ℕ)
    → IsSound (compacted_to s (compact_level s j entries plan first) compacted next_array)
compaction_sound s sound j entries plan first r compacted next_array =
    let fresh : List Level = compact_level s j entries plan first in
    recounted_sound (promoted s fresh s.written next_array) compacted
    (subst (λ (levels : List Level). IsSound (promoted s levels s.written next_array)) (append-nil fresh)
    (replaced_sound s sound j s.levels [] fresh entries (thinned_in s entries) (compaction_replaces s (ordered s sound) j entries plan first r) s.written next_array))

-- group by group
module _ (s : State) (sound : IsOrdered s) (j : ℕ) (groups : List (List Entry)) (own seen : ℕ → ℕ) (plan : Plan) (first : ℕ) (r : CompactsGroups s j groups own seen plan) where
  pub groups_compact : Compacts s j (grouped_entries groups) plan
  groups_compact = record {
    room = r.room;
    union = r.union;
    horizon = r.horizon;
    split =
        subst (λ (es : List Entry). IsPlan (versions_of s) es plan) (thinned_groups (versions_of s) (marks_of s) groups r.grouped)
        (plan_of_groups (versions_of s) (sound_tree s sound.formed) (map (thinned_in s) groups) own seen plan r.split).1;
  }

  pub compact_groups : compact_level_of_groups s j groups plan first ≡ compact_level s j (grouped_entries groups) plan first
  compact_groups =
      ap (λ (level : Level). level_if plan.parts level)
      (sym (level_groups (versions_of s) (sound_tree s sound.formed) (map (thinned_in s) groups) r.split.grouped plan j first)
      ∙ ap (λ (es : List Entry). planned_level (versions_of s) es plan j first) (thinned_groups (versions_of s) (marks_of s) groups r.grouped))
