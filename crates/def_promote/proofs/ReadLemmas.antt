-- A union is read as the places that it was merged from.
use Rattle.std.proofs.Common.{◌≡◌, ◌<◌, ℕ, false, ltb, leb, not, inl, inr, List, ◌++◌, length, sym, ap, ◌∙◌, subst, arith}
use Rattle.std.specs.List.{list_all, flat_map, sum_by}
use Rattle.std.specs.Option.{option_or}
use Rattle.std.proofs.lemmas.Bool.{leb-true, le-leb, and_parts, and_from}
use Rattle.std.proofs.lemmas.List.Sums.{sum_by-append}
use Rattle.strat_base.specs.Entries.{Entry}
use Rattle.def_state.specs.Level.{Level, level_leads, IsStratified}
use Rattle.def_state.specs.Reading.{live_of, level_zero, found_first}
use Rattle.def_state.specs.State.{State, versions_of, marks_of, journal_updates}
use Rattle.strat_base.specs.Marks.{is_dropped}
use Rattle.def_state.specs.Sound.{has_child_below, is_numbered_from, shallower, has_room, has_old_horizon, is_above_frozen, is_described, has_ascending_entries, IsSound}
use Rattle.strat_base.proofs.ListFacts.{Among, all_at, all_from, each_of, each_from, among_left, among_right, among_split, among_flat, among_in_flat, among_filter, filter_among}
use Rattle.def_state.proofs.LiveLemmas.{deciding_live}
use Rattle.def_state.proofs.LevelLemmas.{ascending_single}
use Rattle.def_state.proofs.SoundLemmas.{sound_tree, read_decides}
use Rattle.def_promote.specs.Union.{IsUnion}
use Rattle.def_promote.specs.Promoted.{told_by}
use Rattle.def_promote.proofs.UnionLemmas.{deciding_finds}
use Rattle.def_promote.proofs.LevelsLemmas.{numbered_front}

module _ (s : State) (sound : IsSound s) (taken kept : List Level) (parts : s.levels ≡ taken ++ kept) where
  abbrev front : State
  front = record s { levels = taken }

  was_taken : (level : Level) → Among level taken → Among level s.levels
  was_taken level among = subst (λ (levels : List Level). Among level levels) (sym parts) (among_left taken kept level among)

  above_taken : (level other : Level) → Among other (shallower front level) → Among other (shallower s level)
  above_taken level other among =
      let found = filter_among (λ l. ltb l.number level.number) taken other among in
      among_filter (λ l. ltb l.number level.number) s.levels other (was_taken other found.0) found.1

  -- the shallow levels alone are a sound state's
  pub front_sound : IsSound front
  front_sound = record {
    formed = record {
      tree = sound.formed.tree;
      pruned = sound.formed.pruned;
      numbered = numbered_front 1 taken kept (ap (λ (levels : List Level). is_numbered_from 1 levels) (sym parts) ∙ sound.formed.numbered);
      accepted = sound.formed.accepted;
      fits = sound.formed.fits;
    };
    stratified = each_from (IsStratified (versions_of s)) taken (λ level here. each_of (IsStratified (versions_of s)) s.levels level sound.stratified (was_taken level here));
    roomy = all_from (has_room front) taken (λ level here. all_at (has_room s) level s.levels sound.roomy (was_taken level here));
    old = all_from (has_old_horizon front) taken (λ level here.
        let was = and_parts (leb level.horizon (length s.parents)) (list_all (λ other. leb level.horizon other.horizon) (shallower s level)) (all_at (has_old_horizon s) level s.levels sound.old (was_taken level here)) in
        and_from (leb level.horizon (length s.parents)) (list_all (λ other. leb level.horizon other.horizon) (shallower front level)) was.0
        (all_from (λ other. leb level.horizon other.horizon) (shallower front level) (λ other among. all_at (λ o. leb level.horizon o.horizon) other (shallower s level) was.1 (above_taken level other among))));
    settled = all_from (is_above_frozen front) taken (λ level here.
        let was = all_at (is_above_frozen s) level s.levels sound.settled (was_taken level here) in
        all_from (λ e. not (has_child_below front level.horizon e.version)) (journal_updates s ++ flat_map level_leads (shallower front level)) (λ e among.
        all_at (λ x. not (has_child_below s level.horizon x.version)) e (journal_updates s ++ flat_map level_leads (shallower s level)) was
        (elim (among_split (journal_updates s) (flat_map level_leads (shallower front level)) e among) [
          | inl update ↦ among_left (journal_updates s) (flat_map level_leads (shallower s level)) e update
          | inr lead ↦
              let at = among_flat level_leads (shallower front level) e lead in
              among_right (journal_updates s) (flat_map level_leads (shallower s level)) e (among_in_flat level_leads (shallower s level) at.0 e (above_taken level at.0 at.1) at.2)
        ])));
    described = all_from (λ level. list_all (is_described front) level.arrays) taken (λ level here. all_at (λ l. list_all (is_described s) l.arrays) level s.levels sound.described (was_taken level here));
    few =
        let few = leb-true (sum_by (λ level. length (level_leads level)) s.levels) s.updates sound.few in
        let all = ap (λ (levels : List Level). sum_by (λ level. length (level_leads level)) levels) parts in
        let both = sum_by-append (λ (level : Level). length (level_leads level)) taken kept in
        le-leb (sum_by (λ level. length (level_leads level)) taken) s.updates (omega (arith, few, all, both));
    ascending = all_from (λ level. list_all has_ascending_entries level.arrays) taken (λ level here. all_at (λ l. list_all has_ascending_entries l.arrays) level s.levels sound.ascending (was_taken level here));
  }

  -- what is live in the union at a version is what the first place with a live entry has
  pub union_reads : (entries : List Entry) → IsUnion (told_by s taken) entries → (v : ℕ) (key : List ℕ) → v < length (versions_of s) → is_dropped (marks_of s) v ≡ false
      → live_of (versions_of s) entries v key ≡ option_or (live_of (versions_of s) (level_zero s) v key) (found_first (versions_of s) taken v key)
  union_reads entries union v key known living =
      deciding_live (versions_of s) (sound_tree s sound.formed) entries key v (ascending_single entries union.ascending)
      ∙ deciding_finds (versions_of s) entries (told_by s taken) key (union.first key) v
      ∙ sym (read_decides front front_sound key v known living)
