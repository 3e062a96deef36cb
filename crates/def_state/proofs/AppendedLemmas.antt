-- A sound state with one more accepted change in its journal.
use Rattle.std.proofs.Common.{◌≡◌, ◌<◌, ◌≤◌, ◌+◌, ◌*◌, ℕ, suc, true, false, eqb, ltb, leb, ◌&&◌, ◌||◌, not, ◌⊎◌, inl, inr, List, [], ◌∷◌, ◌++◌, length, filter, Option, Some, None, refl, sym, ap, ◌∙◌, subst, arith, true≢false, length-append}
use Rattle.std.specs.List.{list_any, list_all, flat_map, fold, range_with_len}
use Rattle.std.specs.Option.{option_map_or}
use Rattle.std.proofs.lemmas.Bool.{leb-true, le-leb, and_parts, and_from, not-true, not_from_false, false_from_ne_true}
use Rattle.strat_base.specs.Tree.{Parents, parent_of, path, with_child, IsTree}
use Rattle.strat_base.specs.Marks.{Marks, is_dropped, has_living_child}
use Rattle.def_state.proofs.MarkLemmas.{dropped_stays}
use Rattle.strat_base.proofs.PrunedLemmas.{parent_there}
use Rattle.strat_base.specs.Entries.{Entry, is_of, are_same}
use Rattle.strat_base.specs.Change.{Change, Put, Delete, Clone, DropVersion}
use Rattle.def_state.specs.Live.{live}
use Rattle.def_state.specs.Level.{TaggedArray, Level, own_leads, level_leads, tagged_versions, least, least_live, agrees, is_dense, IsStratified}
use Rattle.def_state.specs.State.{State, versions_of, marks_of, tree_after, marks_after, is_living, journal_updates, appended}
use Rattle.def_state.specs.Sound.{has_child_below, shallower, has_old_horizon, is_above_frozen, is_described, is_accepted, are_accepted, accepts_change, journal_max, IsOrdered}
use Rattle.strat_base.proofs.ListFacts.{Among, any_among, any_from, all_at, all_from, among_split, among_left, among_right, among_in_flat, among_range, range_among, fold-push, all_same, map_same, each_of, each_from}
use Rattle.def_state.proofs.LevelLemmas.{tagged_below}
use Rattle.def_state.proofs.SoundLemmas.{sound_tree}

pub length-grown : (parents : Parents) (journal : List Change) → length parents ≤ length (fold tree_after parents journal)
length-grown parents [] = omega arith
length-grown parents (Put version key value ∷ journal) = length-grown parents journal
length-grown parents (Delete version key ∷ journal) = length-grown parents journal
length-grown parents (Clone version ∷ journal) = let more = length-grown (with_child parents version) journal in omega (arith, more, length-append parents (Some version ∷ []))
length-grown parents (DropVersion version ∷ journal) = length-grown parents journal

accepted-push : (changes_max versions_max : ℕ) (parents : Parents) (marks : Marks) (n : ℕ) (journal : List Change) (c : Change) → are_accepted changes_max versions_max parents marks n journal ≡ true
    → is_accepted changes_max versions_max (fold tree_after parents journal) (fold marks_after marks journal) (n + length journal) c ≡ true → are_accepted changes_max versions_max parents marks n (journal ++ c ∷ []) ≡ true
accepted-push changes_max versions_max parents marks n [] c all last =
    and_from (is_accepted changes_max versions_max parents marks n c) true (subst (λ (k : ℕ). is_accepted changes_max versions_max parents marks k c ≡ true) (omega arith) last) refl
accepted-push changes_max versions_max parents marks n (d ∷ journal) c all last =
    let parts = and_parts (is_accepted changes_max versions_max parents marks n d) (are_accepted changes_max versions_max (tree_after parents d) (marks_after marks d) (suc n) journal) all in
    and_from (is_accepted changes_max versions_max parents marks n d) (are_accepted changes_max versions_max (tree_after parents d) (marks_after marks d) (suc n) (journal ++ c ∷ [])) parts.0
    (accepted-push changes_max versions_max (tree_after parents d) (marks_after marks d) (suc n) journal c parts.1 (subst (λ (k : ℕ). is_accepted changes_max versions_max (fold tree_after (tree_after parents d) journal) (fold marks_after (marks_after marks d) journal) k c ≡ true) (omega arith) last))

-- two trees with the same paths below a bound
module _ (old new : Parents) (bound : ℕ) (same : (v : ℕ) → v < bound → path new v ≡ path old v) where
  live_kept : (entries : List Entry) (v : ℕ) → v < bound → live new entries v ≡ live old entries v
  live_kept entries v lt =
      ap (λ (way : List ℕ). filter (λ e. list_any (λ w. eqb w e.version) way && not (list_any (λ other. is_of e.key other && ltb e.version other.version && list_any (λ w. eqb w other.version) way) entries)) entries) (same v lt)

  module _ (level : Level) (tree : IsTree old) (strat : IsStratified old level) (low : level.horizon ≤ bound) where
    tag_below : (a : TaggedArray) → Among a level.arrays → (v : ℕ) → Among v a.tag → v < bound
    tag_below a here v among = let lt = tagged_below old tree level strat v (among_in_flat (λ x. x.tag) level.arrays a v here among) in omega (arith, lt)

    pub stratified_kept : IsStratified new level
    stratified_kept = record {
      disjoint = strat.disjoint;
      tagged =
          all_same (λ v. list_any (λ w. eqb w v) (tagged_versions level) || eqb (length (live new (level_leads level) v)) 0) (λ v. list_any (λ w. eqb w v) (tagged_versions level) || eqb (length (live old (level_leads level) v)) 0) (range_with_len 0 level.horizon)
          (λ v among. let lt = range_among 0 level.horizon v among in ap (λ (x : List Entry). list_any (λ w. eqb w v) (tagged_versions level) || eqb (length x) 0) (live_kept (level_leads level) v (omega (arith, lt.1))))
          ∙ strat.tagged;
      agreeing =
          all_same (agrees new level) (agrees old level) level.arrays (λ a here.
          all_same (λ v. are_same (live new a.content v) (live new (level_leads level) v)) (λ v. are_same (live old a.content v) (live old (level_leads level) v)) a.tag
          (λ v among i. are_same (live_kept a.content v (tag_below a here v among) i) (live_kept (level_leads level) v (tag_below a here v among) i)))
          ∙ strat.agreeing;
      dense =
          all_same (is_dense new) (is_dense old) level.arrays (λ a here.
          all_same (λ v. leb (length a.content) (3 * length (live new a.content v))) (λ v. leb (length a.content) (3 * length (live old a.content v))) a.tag
          (λ v among. ap (λ (x : List Entry). leb (length a.content) (3 * length x)) (live_kept a.content v (tag_below a here v among))))
          ∙ strat.dense;
      led = strat.led;
      drawn = strat.drawn;
      single = strat.single;
    }

    pub least_kept : (a : TaggedArray) → Among a level.arrays → least_live new a ≡ least_live old a
    least_kept a here = ap least (map_same (λ v. length (live new a.content v)) (λ v. length (live old a.content v)) a.tag (λ v among. ap (λ (x : List Entry). length x) (live_kept a.content v (tag_below a here v among))))

module _ (s : State) (sound : IsOrdered s) (c : Change) (accepted : accepts_change s c ≡ true) (room : length s.journal < journal_max s.mem) where
  horizon_low : (level : Level) → Among level s.levels → level.horizon ≤ length (versions_of s)
  horizon_low level here =
      let old = and_parts (leb level.horizon (length s.parents)) (list_all (λ other. leb level.horizon other.horizon) (shallower s level)) (all_at (has_old_horizon s) level s.levels sound.old here) in
      let le = leb-true level.horizon (length s.parents) old.0 in
      let more = length-grown s.parents s.journal in
      omega (arith, le, more)

  -- no older path or parent changes, and updates are made at versions without a child
  module _ (same : (v : ℕ) → v < length (versions_of s) → path (versions_of (appended s c)) v ≡ path (versions_of s) v)
      (parents : (v : ℕ) → v < length (versions_of s) → parent_of (versions_of (appended s c)) v ≡ parent_of (versions_of s) v)
      (updates : (e : Entry) → Among e (journal_updates (appended s c)) → Among e (journal_updates s) ⊎ (has_living_child (versions_of s) (marks_of s) e.version ≡ false)) where
    -- no version gets a living child among the versions that there are
    childless_still : (h v : ℕ) → h ≤ length (versions_of s) → has_child_below s h v ≡ false → has_child_below (appended s c) h v ≡ false
    childless_still h v low none =
        false_from_ne_true (has_child_below (appended s c) h v) (λ some.
        let found = any_among (λ x. option_map_or (λ p. eqb p v) (parent_of (versions_of (appended s c)) x) false && is_living (appended s c) x) (range_with_len 0 h) some in
        let lt = range_among 0 h found.0 found.1 in
        let child = and_parts (option_map_or (λ p. eqb p v) (parent_of (versions_of (appended s c)) found.0) false) (is_living (appended s c) found.0) found.2 in
        let marks : marks_of (appended s c) ≡ marks_after (marks_of s) c = fold-push marks_after s.marks s.journal c in
        let lives : is_dropped (marks_of s) found.0 ≡ false =
        false_from_ne_true (is_dropped (marks_of s) found.0) (λ dropped.
        true≢false (sym (ap (λ (m : Marks). is_dropped m found.0) marks ∙ dropped_stays (marks_of s) c found.0 dropped) ∙ not-true (is_dropped (marks_of (appended s c)) found.0) child.1)) in
        true≢false (sym (any_from (λ x. option_map_or (λ p. eqb p v) (parent_of (versions_of s) x) false && is_living s x) found.0 (range_with_len 0 h) found.1
        (and_from (option_map_or (λ p. eqb p v) (parent_of (versions_of s) found.0) false) (is_living s found.0)
        (ap (λ (o : Option ℕ). option_map_or (λ p. eqb p v) o false) (sym (parents found.0 (omega (arith, lt.1, low)))) ∙ child.0)
        (not_from_false (is_dropped (marks_of s) found.0) lives))) ∙ none))

    childless_below : (h v : ℕ) → has_living_child (versions_of s) (marks_of s) v ≡ false → has_child_below s h v ≡ false
    childless_below h v none =
        false_from_ne_true (has_child_below s h v) (λ some.
        let found = any_among (λ x. option_map_or (λ p. eqb p v) (parent_of (versions_of s) x) false && is_living s x) (range_with_len 0 h) some in
        let child = (and_parts (option_map_or (λ p. eqb p v) (parent_of (versions_of s) found.0) false) (is_living s found.0) found.2).0 in
        let low = child_there found.0 (parent_of (versions_of s) found.0) refl child in
        true≢false (sym (any_from (λ x. option_map_or (λ p. eqb p v) (parent_of (versions_of s) x) false && is_living s x) found.0 (range_with_len 0 (length (versions_of s))) (among_range 0 (length (versions_of s)) found.0 (omega arith) (omega (arith, low))) found.2) ∙ none))
      where
        child_there : (x : ℕ) (o : Option ℕ) → parent_of (versions_of s) x ≡ o → option_map_or (λ p. eqb p v) o false ≡ true → x < length (versions_of s)
        child_there x None is e = absurd (true≢false (sym e))
        child_there x (Some p) is e = parent_there (versions_of s) x p is

    pub ordered_appended : IsOrdered (appended s c)
    ordered_appended = record {
      formed = record {
        tree = sound.formed.tree;
        pruned = sound.formed.pruned;
        numbered = sound.formed.numbered;
        accepted = accepted-push s.changes_max s.versions_max s.parents s.marks s.changes s.journal c sound.formed.accepted accepted;
        fits = le-leb (length (s.journal ++ c ∷ [])) (journal_max s.mem) (omega (arith, length-append s.journal (c ∷ [])));
      };
      stratified = each_from (IsStratified (versions_of (appended s c))) s.levels (λ level here.
          stratified_kept (versions_of s) (versions_of (appended s c)) (length (versions_of s)) same level (sound_tree s sound.formed) (each_of (IsStratified (versions_of s)) s.levels level sound.stratified here) (horizon_low level here));
      roomy = sound.roomy;
      old = sound.old;
      described =
          all_same (λ level. list_all (is_described (appended s c)) level.arrays) (λ level. list_all (is_described s) level.arrays) s.levels (λ level here.
          all_same (is_described (appended s c)) (is_described s) level.arrays (λ a inside.
          ap (λ (n : ℕ). (eqb a.entries (length a.content) && eqb a.leads (length (own_leads a))) && eqb a.least n)
          (least_kept (versions_of s) (versions_of (appended s c)) (length (versions_of s)) same level (sound_tree s sound.formed) (each_of (IsStratified (versions_of s)) s.levels level sound.stratified here) (horizon_low level here) a inside)))
          ∙ sound.described;
      few = sound.few;
      ascending = sound.ascending;
    }

    pub settled_appended : list_all (is_above_frozen s) s.levels ≡ true → list_all (is_above_frozen (appended s c)) s.levels ≡ true
    settled_appended settled = all_from (is_above_frozen (appended s c)) s.levels (λ level here.
        all_from (λ e. not (has_child_below (appended s c) level.horizon e.version)) (journal_updates (appended s c) ++ flat_map level_leads (shallower s level)) (λ e among.
        let before = all_at (is_above_frozen s) level s.levels settled here in
        let none : Among e (journal_updates s ++ flat_map level_leads (shallower s level)) → has_child_below s level.horizon e.version ≡ false =
        λ there. not-true (has_child_below s level.horizon e.version) (all_at (λ x. not (has_child_below s level.horizon x.version)) e (journal_updates s ++ flat_map level_leads (shallower s level)) before there) in
        let still : has_child_below s level.horizon e.version ≡ false → not (has_child_below (appended s c) level.horizon e.version) ≡ true =
        λ childless. not_from_false (has_child_below (appended s c) level.horizon e.version) (childless_still level.horizon e.version (horizon_low level here) childless) in
        elim (among_split (journal_updates (appended s c)) (flat_map level_leads (shallower s level)) e among) [
          | inr lead ↦ still (none (among_right (journal_updates s) (flat_map level_leads (shallower s level)) e lead))
          | inl update ↦
              elim (updates e update) [
                | inl older ↦ still (none (among_left (journal_updates s) (flat_map level_leads (shallower s level)) e older))
                | inr childless ↦ still (childless_below level.horizon e.version childless)
              ]
        ]))
