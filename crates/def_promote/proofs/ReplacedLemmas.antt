-- A state whose shallow levels are replaced says the same, and is sound.
use Rattle.std.proofs.Common.{◌≡◌, ◌<◌, ◌≤◌, ◌*◌, ◌^◌, ℕ, suc, Bool, true, false, cond, ltb, leb, not, ◌⊎◌, inl, inr, List, [], ◌∷◌, ◌++◌, length, reverse, Option, refl, sym, ap, ◌∙◌, subst, arith, length-append, append-nil}
use Rattle.std.specs.List.{list_all, flat_map, sum_by}
use Rattle.std.specs.Option.{option_and_then}
use Rattle.std.proofs.lemmas.Bool.{lt-ltb, ltb-true, le-leb, leb-true, and_parts, and_from}
use Rattle.std.proofs.lemmas.List.{append_assoc, length-reverse}
use Rattle.std.proofs.lemmas.List.Concat.{flat_map-append, length-flat_map}
use Rattle.std.proofs.lemmas.List.Sums.{sum_by-append}
use Rattle.strat_base.specs.Tree.{Parents, IsTree}
use Rattle.strat_base.specs.Entries.{Entry, is_single, holds_entry}
use Rattle.def_state.specs.Maps.{value_over, map_over}
use Rattle.def_state.specs.Level.{Level, level_leads, IsStratified}
use Rattle.def_state.specs.State.{State, versions_of, marks_of, is_living, journal_updates, sources, map_at, updates_of}
use Rattle.def_state.specs.Sound.{has_child_below, shallower, has_room, has_old_horizon, is_above_frozen, is_described, has_ascending_entries, is_numbered_from, journal_max, IsOrdered, IsSound}
use Rattle.strat_base.proofs.ListFacts.{Among, all_at, all_from, each_of, each_from, among_left, among_right, among_split, among_flat, among_in_flat, among_filter, filter_among}
use Rattle.strat_base.proofs.EntryLemmas.{held_among}
use Rattle.def_state.proofs.LevelLemmas.{ascending_single}
use Rattle.def_state.proofs.MarkLemmas.{pruned_test}
use Rattle.def_state.proofs.SoundLemmas.{sound_tree, sound_pruned, ordered, with_settled, among_back}
use Rattle.def_state.proofs.AppendedLemmas.{length-grown}
use Rattle.def_state.proofs.ValueLemmas.{maps_same}
use Rattle.def_promote.specs.Purge.{is_needed, entries_over}
use Rattle.def_promote.specs.Promoted.{SaysTheSame, told_by, promoted}
use Rattle.def_promote.specs.Replaced.{IsNewLevel, Replaces}
use Rattle.def_promote.proofs.UnionLemmas.{deciding_finds, find_before, found_among, single_fits}
use Rattle.def_promote.proofs.LevelsLemmas.{tree_test, numbered_from, numbered_tail, numbered_least, numbered_apart}

-- what is written is of the union
pub over_among : (parents : Parents) (kept : List Level) (entries : List Entry) (e : Entry) → Among e (entries_over parents kept entries) → Among e entries
over_among parents [] entries e among = (filter_among (is_needed parents entries) entries e among).0
over_among parents (level ∷ kept) entries e among = among

-- the leads of at most one level have one entry for each key and version
one_single : (fresh : List Level) → length fresh ≤ 1 → ((level : Level) → Among level fresh → is_single (level_leads level) ≡ true) → is_single (flat_map level_leads fresh) ≡ true
one_single [] one single = refl
one_single (level ∷ []) one single = ap is_single (append-nil (level_leads level)) ∙ single level (inl refl)
one_single (level ∷ other ∷ rest) one single = absurd (omega (arith, one))

module _ (s : State) (sound : IsOrdered s) (j : ℕ) (taken kept fresh : List Level) (entries over : List Entry) (r : Replaces s j taken kept fresh entries over) where
  abbrev parents : Parents
  parents = versions_of s

  tree : IsTree (versions_of s)
  tree = sound_tree s sound.formed

  union_single : is_single entries ≡ true
  union_single = ascending_single entries r.union.ascending

  -- the values

  sources_are : sources s ≡ told_by s taken ++ flat_map level_leads kept
  sources_are =
      ap (λ (levels : List Level). reverse (journal_updates s) ++ flat_map level_leads levels) r.takes.levels_are
      ∙ ap (λ (es : List Entry). reverse (journal_updates s) ++ es) (flat_map-append level_leads taken kept)
      ∙ sym (append_assoc (reverse (journal_updates s)) (flat_map level_leads taken) (flat_map level_leads kept))

  module _ (written next_array : ℕ) where
    abbrev new : State
    new = promoted s (fresh ++ kept) written next_array

    pub values_kept : (v : ℕ) (key : List ℕ) → is_living s v ≡ true → value_over parents (sources new) v key ≡ value_over parents (sources s) v key
    values_kept v key living =
        ap (λ (es : List Entry). value_over parents es v key) (flat_map-append level_leads fresh kept)
        ∙ ap (λ (o : Option Entry). option_and_then (λ e. e.value) o)
        (deciding_finds parents (flat_map level_leads fresh ++ flat_map level_leads kept) (over ++ flat_map level_leads kept) key
        (λ u. find_before (flat_map level_leads fresh) over (flat_map level_leads kept) key u (r.leads key u)) v)
        ∙ r.worth.values v key living
        ∙ ap (λ (o : Option Entry). option_and_then (λ e. e.value) o)
        (deciding_finds parents (entries ++ flat_map level_leads kept) (told_by s taken ++ flat_map level_leads kept) key
        (λ u. find_before entries (told_by s taken) (flat_map level_leads kept) key u (r.union.first key u)) v)
        ∙ sym (ap (λ (es : List Entry). value_over parents es v key) sources_are)

    pub replaced_says : SaysTheSame s new
    replaced_says = record {
      mem = refl;
      changes_max = refl;
      versions_max = refl;
      versions = refl;
      marks = refl;
      maps = λ v known. seen v (is_living s v) refl;
      updates = omega arith;
      changes = omega arith;
    }
      where
        seen : (v : ℕ) (b : Bool) → is_living s v ≡ b → map_at new v ≡ map_at s v
        seen v true is = ap (λ (m : List (List ℕ × List ℕ)). cond (is_living s v) m []) (maps_same parents parents tree tree (sources s) (sources new) v v (λ q. values_kept v q is))
        seen v false is = ap (λ (b : Bool). cond b (map_over parents (sources new) v) []) is ∙ sym (ap (λ (b : Bool). cond b (map_over parents (sources s) v) []) is)

    -- the levels

    pub fresh_is : (level : Level) → Among level fresh → IsNewLevel s j level
    fresh_is level among = each_of (IsNewLevel s j) fresh level r.each among

    pub kept_was : (level : Level) → Among level kept → Among level s.levels
    kept_was level among = subst (λ (levels : List Level). Among level levels) (sym r.takes.levels_are) (among_right taken kept level among)

    taken_was : (level : Level) → Among level taken → Among level s.levels
    taken_was level among = subst (λ (levels : List Level). Among level levels) (sym r.takes.levels_are) (among_left taken kept level among)

    pub kept_deep : (level : Level) → Among level kept → j < level.number
    kept_deep level among = ltb-true j level.number (all_at (λ l. ltb j l.number) level kept r.takes.deep among)

    -- a test that all levels pass
    each_level : (p : Level → Bool) → ((level : Level) → Among level fresh → IsNewLevel s j level → p level ≡ true) → ((level : Level) → Among level kept → Among level s.levels → p level ≡ true) → list_all p (fresh ++ kept) ≡ true
    each_level p one other =
        all_from p (fresh ++ kept) (λ level among.
        elim (among_split fresh kept level among) [
          | inl here ↦ one level here (fresh_is level here)
          | inr there ↦ other level there (kept_was level there)
        ])

    numbered : is_numbered_from 1 (fresh ++ kept) ≡ true
    numbered =
        let tail = numbered_tail 1 taken kept (ap (λ (levels : List Level). is_numbered_from 1 levels) (sym r.takes.levels_are) ∙ sound.formed.numbered) in
        let behind : is_numbered_from (suc j) kept ≡ true = numbered_least tail.0 kept tail.1 (suc j) (λ level among. kept_deep level among) in
        go fresh r.one (λ level among. fresh_is level among) behind
      where
        go : (fresh : List Level) → length fresh ≤ 1 → ((level : Level) → Among level fresh → IsNewLevel s j level) → is_numbered_from (suc j) kept ≡ true → is_numbered_from 1 (fresh ++ kept) ≡ true
        go [] one is behind = numbered_least (suc j) kept behind 1 (λ level among. let lt = kept_deep level among in omega (arith, lt))
        go (level ∷ []) one is behind =
            let here = is level (inl refl) in
            let number = here.number in
            let low = r.takes.least in
            let high = r.takes.most in
            numbered_from 1 level kept (record {
              low = omega (arith, number, low);
              high = omega (arith, number, high);
              filled = here.filled;
              rest = ap (λ (n : ℕ). is_numbered_from (suc n) kept) number ∙ behind;
            })
        go (level ∷ other ∷ rest) one is behind = absurd (omega (arith, one))

    -- nothing stands above a fresh level
    pub nothing_above : (level other : Level) → Among level fresh → Among other (shallower new level) → ⊥
    nothing_above level other here among =
        let above = filter_among (λ l. ltb l.number level.number) (fresh ++ kept) other among in
        let less = ltb-true other.number level.number above.1 in
        let number = (fresh_is level here).number in
        elim (among_split fresh kept other above.0) [
          | inl one ↦ let same = (fresh_is other one).number in omega (arith, less, number, same)
          | inr two ↦ let deep = kept_deep other two in omega (arith, less, number, deep)
        ]

    -- above a kept level stand fresh ones, and such as stood there
    pub above_kept : (level other : Level) → Among level kept → Among other (shallower new level) → Among other fresh ⊎ Among other (shallower s level)
    above_kept level other there among =
        let above = filter_among (λ l. ltb l.number level.number) (fresh ++ kept) other among in
        elim (among_split fresh kept other above.0) [
          | inl one ↦ inl one
          | inr two ↦ inr (among_filter (λ l. ltb l.number level.number) s.levels other (kept_was other two) above.1)
        ]

    pub fresh_single : is_single (flat_map level_leads fresh) ≡ true
    fresh_single = one_single fresh r.one (λ level among. (fresh_is level among).stratified.single)

    -- the leads of a fresh level are of the union
    pub fresh_among : (e : Entry) → Among e (flat_map level_leads fresh) → Among e entries
    fresh_among e among =
        held_among entries e (all_at (holds_entry entries) e over r.worth.inside (found_among (flat_map level_leads fresh) over r.leads fresh_single e among))

    -- and were said before
    pub fresh_said : (e : Entry) → Among e (flat_map level_leads fresh) → Among e (told_by s taken)
    fresh_said e among = found_among entries (told_by s taken) r.union.first union_single e (fresh_among e among)

    -- and stood above each kept level
    pub stood_above : (level : Level) → Among level kept → (e : Entry) → Among e (told_by s taken) → Among e (journal_updates s ++ flat_map level_leads (shallower s level))
    stood_above level there e among =
        elim (among_split (reverse (journal_updates s)) (flat_map level_leads taken) e among) [
          | inl update ↦ among_left (journal_updates s) (flat_map level_leads (shallower s level)) e (among_back (journal_updates s) e update)
          | inr lead ↦
              let at = among_flat level_leads taken e lead in
              let deeper = numbered_apart 1 taken kept (ap (λ (levels : List Level). is_numbered_from 1 levels) (sym r.takes.levels_are) ∙ sound.formed.numbered) at.0 level at.1 there in
              among_right (journal_updates s) (flat_map level_leads (shallower s level)) e
              (among_in_flat level_leads (shallower s level) at.0 e
              (among_filter (λ l. ltb l.number level.number) s.levels at.0 (taken_was at.0 at.1) (lt-ltb at.0.number level.number deeper)) at.2)
        ]

    -- i
    rule_i : list_all (has_old_horizon new) (fresh ++ kept) ≡ true
    rule_i =
        each_level (has_old_horizon new)
        (λ level here is.
        and_from (leb level.horizon (length parents)) (list_all (λ other. leb level.horizon other.horizon) (shallower new level))
        (le-leb level.horizon (length parents) (omega (arith, is.horizon)))
        (all_from (λ other. leb level.horizon other.horizon) (shallower new level) (λ other among. absurd (nothing_above level other here among))))
        (λ level there was.
        let old = and_parts (leb level.horizon (length s.parents)) (list_all (λ other. leb level.horizon other.horizon) (shallower s level)) (all_at (has_old_horizon s) level s.levels sound.old was) in
        let le = leb-true level.horizon (length s.parents) old.0 in
        let more = length-grown s.parents s.journal in
        and_from (leb level.horizon (length parents)) (list_all (λ other. leb level.horizon other.horizon) (shallower new level))
        (le-leb level.horizon (length parents) (omega (arith, le, more)))
        (all_from (λ other. leb level.horizon other.horizon) (shallower new level) (λ other among.
        elim (above_kept level other there among) [
          | inl one ↦ let horizon = (fresh_is other one).horizon in le-leb level.horizon other.horizon (omega (arith, le, more, horizon))
          | inr two ↦ all_at (λ o. leb level.horizon o.horizon) other (shallower s level) old.1 two
        ])))

    -- j
    pub rule_j : list_all (is_above_frozen s) s.levels ≡ true → list_all (is_above_frozen new) (fresh ++ kept) ≡ true
    rule_j settled =
        each_level (is_above_frozen new)
        (λ level here is.
        all_from (λ e. not (has_child_below new level.horizon e.version)) (flat_map level_leads (shallower new level)) (λ e among.
        let at = among_flat level_leads (shallower new level) e among in
        absurd (nothing_above level at.0 here at.1)))
        (λ level there was.
        let before = all_at (is_above_frozen s) level s.levels settled was in
        let still : (e : Entry) → Among e (journal_updates s ++ flat_map level_leads (shallower s level)) → not (has_child_below s level.horizon e.version) ≡ true =
        λ e stood. all_at (λ x. not (has_child_below s level.horizon x.version)) e (journal_updates s ++ flat_map level_leads (shallower s level)) before stood in
        all_from (λ e. not (has_child_below new level.horizon e.version)) (flat_map level_leads (shallower new level)) (λ e among.
        let at = among_flat level_leads (shallower new level) e among in
        elim (above_kept level at.0 there at.1) [
          | inl one ↦ still e (stood_above level there e (fresh_said e (among_in_flat level_leads fresh at.0 e one at.2)))
          | inr two ↦ still e (among_right (journal_updates s) (flat_map level_leads (shallower s level)) e (among_in_flat level_leads (shallower s level) at.0 e two at.2))
        ]))

    -- l
    rule_l : sum_by (λ level. length (level_leads level)) (fresh ++ kept) ≤ updates_of s
    rule_l =
        let count : Level → ℕ = λ level. length (level_leads level) in
        let few = leb-true (sum_by (λ level. length (level_leads level)) s.levels) s.updates sound.few in
        let old = ap (λ (levels : List Level). sum_by (λ level. length (level_leads level)) levels) r.takes.levels_are in
        let parts = sum_by-append (λ level. length (level_leads level)) taken kept in
        let whole = sum_by-append (λ level. length (level_leads level)) fresh kept in
        let size = length-flat_map level_leads fresh in
        let said = length-append (reverse (journal_updates s)) (flat_map level_leads taken) in
        let turned = length-reverse (journal_updates s) in
        let leads = length-flat_map level_leads taken in
        let less = single_fits (flat_map level_leads fresh) (told_by s taken) fresh_single fresh_said in
        omega (arith, few, old, parts, whole, size, said, turned, leads, less)

    pub replaced_ordered : IsOrdered new
    replaced_ordered = record {
      formed = record {
        tree = tree_test parents tree;
        pruned = pruned_test parents (marks_of s) (sound_pruned s sound.formed);
        numbered = numbered;
        accepted = refl;
        fits = le-leb 0 (journal_max s.mem) (omega arith);
      };
      stratified = each_from (IsStratified parents) (fresh ++ kept) (λ level among.
          elim (among_split fresh kept level among) [
            | inl here ↦ (fresh_is level here).stratified
            | inr there ↦ each_of (IsStratified parents) s.levels level sound.stratified (kept_was level there)
          ]);
      roomy = each_level (has_room new)
          (λ level here is.
          let room = is.room in
          le-leb (length (level_leads level)) (s.mem * 2 ^ level.number) (subst (λ (n : ℕ). length (level_leads level) ≤ s.mem * 2 ^ n) (sym is.number) room))
          (λ level there was. all_at (has_room s) level s.levels sound.roomy was);
      old = rule_i;
      described = each_level (λ level. list_all (is_described new) level.arrays)
          (λ level here is. is.described)
          (λ level there was. all_at (λ l. list_all (is_described s) l.arrays) level s.levels sound.described was);
      few = le-leb (sum_by (λ level. length (level_leads level)) (fresh ++ kept)) (updates_of s) rule_l;
      ascending = each_level (λ level. list_all has_ascending_entries level.arrays)
          (λ level here is. is.ascending)
          (λ level there was. all_at (λ l. list_all has_ascending_entries l.arrays) level s.levels sound.ascending was);
    }

-- and keeps rule j too
pub replaced_sound : (s : State) (sound : IsSound s) (j : ℕ) (taken kept fresh : List Level) (entries over : List Entry) (r : Replaces s j taken kept fresh entries over) (written next_array : ℕ)
    → IsSound (promoted s (fresh ++ kept) written next_array)
replaced_sound s sound j taken kept fresh entries over r written next_array =
    with_settled (promoted s (fresh ++ kept) written next_array) (replaced_ordered s (ordered s sound) j taken kept fresh entries over r written next_array)
    (rule_j s (ordered s sound) j taken kept fresh entries over r written next_array sound.settled)
