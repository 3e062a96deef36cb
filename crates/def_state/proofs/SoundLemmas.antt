-- In a sound state the first place that speaks of a key decides it.
use Rattle.std.proofs.Common.{◌≡◌, ◌<◌, ◌≤◌, ◌+◌, ℕ, zero, suc, Bool, true, false, cond, eqb, ltb, leb, ◌&&◌, not, inl, inr, List, [], ◌∷◌, ◌++◌, length, reverse, Option, Some, None, refl, sym, ap, ◌∙◌, subst, arith, true≢false}
use Rattle.std.specs.List.{list_any, list_all, find, flat_map, fold, range_with_len, slice_get}
use Rattle.std.specs.Option.{option_or, option_map_or}
use Rattle.std.proofs.lemmas.Bool.{eqb-true, eq-eqb, ltb-true, lt-ltb, leb-true, and_parts, and_from, not-true, not_from_false, false_from_ne_true}
use Rattle.std.proofs.lemmas.List.{reverse-append}
use Rattle.strat_base.specs.Tree.{Parents, parent_of, path, IsOlder, IsTree}
use Rattle.strat_base.specs.Entries.{Entry, is_at, is_single, latest}
use Rattle.strat_base.specs.Change.{Change, Put, Delete, Clone, DropVersion}
use Rattle.strat_base.specs.Marks.{Marks, is_dropped, ArePruned}
use Rattle.def_state.proofs.MarkLemmas.{there_known, clone_there, pruned_after, pruned_from_test, path_living}
use Rattle.def_state.specs.Live.{first_some, deciding}
use Rattle.def_state.specs.Level.{Level, level_leads, IsStratified}
use Rattle.def_state.specs.State.{State, versions_of, marks_of, tree_after, marks_after, is_living, journal_updates, sources}
use Rattle.def_state.specs.Sound.{is_tree, is_tree_from, is_numbered_from, has_child_below, shallower, is_above_frozen, has_ascending_entries, is_accepted, are_accepted, IsWellFormed, IsOrdered, IsSound}
use Rattle.def_state.specs.Reading.{live_of, level_zero, found_in, found_first, read_at}
use Rattle.strat_base.proofs.ListFacts.{Among, any_among, any_from, all_at, find_some, find_none, among_flat, among_in_flat, among_left, among_right, among_split, among_filter, among_range, among_reverse, each_of}
use Rattle.strat_base.proofs.EntryLemmas.{is_at_key, is_at_version, at_key_version}
use Rattle.strat_base.proofs.ResultFacts.{option_cases}
use Rattle.strat_base.proofs.TreeLemmas.{path_le, path_order, path_trans, child_on_path, tree_grown}
use Rattle.def_state.proofs.LiveLemmas.{deciding_live, deciding_some}
use Rattle.def_state.proofs.ReadingLemmas.{find-append, or_none, deciding-append}
use Rattle.def_state.proofs.LevelLemmas.{lead_below, found_in_leads}

-- the latest entries

latest_among : (entries : List Entry) (e : Entry) → Among e (latest entries) → Among e entries
latest_among [] e among = among
latest_among (d ∷ entries) e among =
    elim (list_any (is_at d.key d.version) entries) as (λ b. Among e (cond b (latest entries) (d ∷ latest entries)) → Among e (d ∷ entries)) [
      | true ↦ λ there. inr (latest_among entries e there)
      | false ↦ λ here. elim here [ inl same ↦ inl same | inr there ↦ inr (latest_among entries e there) ]
    ] among

pub latest_single : (entries : List Entry) → is_single (latest entries) ≡ true
latest_single [] = refl
latest_single (d ∷ entries) =
    elim (list_any (is_at d.key d.version) entries) as (λ b. list_any (is_at d.key d.version) entries ≡ b → is_single (cond b (latest entries) (d ∷ latest entries)) ≡ true) [
      | true ↦ λ is. latest_single entries
      | false ↦ λ is.
          and_from (not (list_any (is_at d.key d.version) (latest entries))) (is_single (latest entries))
          (not_from_false (list_any (is_at d.key d.version) (latest entries)) (false_from_ne_true (list_any (is_at d.key d.version) (latest entries)) (λ any.
          let found = any_among (is_at d.key d.version) (latest entries) any in
          true≢false (sym (any_from (is_at d.key d.version) found.0 entries (latest_among entries found.0 found.1) found.2) ∙ is))))
          (latest_single entries)
    ] refl

pub among_back : {X : Type 0} (xs : List X) (x : X) → Among x (reverse xs) → Among x xs
among_back [] x among = among
among_back (y ∷ ys) x among =
    elim (among_split (reverse ys) (y ∷ []) x (subst (Among x) (reverse-append (y ∷ []) ys) among)) [
      | inl there ↦ inr (among_back ys x there)
      | inr here ↦ elim here [ inl same ↦ inl same | inr none ↦ absurd none ]
    ]

-- among the latest stands what is first from the end
pub find-latest : (key : List ℕ) (u : ℕ) (entries : List Entry) → find (is_at key u) (latest entries) ≡ find (is_at key u) (reverse entries)
find-latest key u [] = refl
find-latest key u (e ∷ entries) =
    let turned : find (is_at key u) (reverse (e ∷ entries)) ≡ option_or (find (is_at key u) (reverse entries)) (find (is_at key u) (e ∷ [])) =
    ap (find (is_at key u)) (reverse-append (e ∷ []) entries) ∙ find-append (is_at key u) (reverse entries) (e ∷ []) in
    let ih = find-latest key u entries in
    elim (is_at key u e) as (λ b. is_at key u e ≡ b → find (is_at key u) (latest (e ∷ entries)) ≡ find (is_at key u) (reverse (e ∷ entries))) [
      | false ↦ λ out.
          let last : option_or (find (is_at key u) (reverse entries)) (find (is_at key u) (e ∷ [])) ≡ find (is_at key u) (reverse entries) =
          ap (λ (b : Bool). option_or (find (is_at key u) (reverse entries)) (cond b (Some e) None)) out ∙ or_none (find (is_at key u) (reverse entries)) in
          elim (list_any (is_at e.key e.version) entries) as (λ b. find (is_at key u) (cond b (latest entries) (e ∷ latest entries)) ≡ find (is_at key u) (reverse (e ∷ entries))) [
            | true ↦ ih ∙ sym (turned ∙ last)
            | false ↦ ap (λ (b : Bool). cond b (Some e) (find (is_at key u) (latest entries))) out ∙ ih ∙ sym (turned ∙ last)
          ]
      | true ↦ λ hit.
          let k : e.key ≡ key = is_at_key key u e hit in
          let v : e.version ≡ u = is_at_version key u e hit in
          elim (list_any (is_at e.key e.version) entries) as (λ b. list_any (is_at e.key e.version) entries ≡ b → find (is_at key u) (cond b (latest entries) (e ∷ latest entries)) ≡ find (is_at key u) (reverse (e ∷ entries))) [
            | true ↦ λ later.
                let found = any_among (is_at e.key e.version) entries later in
                let d = found.0 in
                let at : is_at key u d ≡ true = at_key_version key u d (is_at_key e.key e.version d found.2 ∙ k) (is_at_version e.key e.version d found.2 ∙ v) in
                elim (option_cases (find (is_at key u) (reverse entries))) [
                  | inl none ↦ absurd (true≢false (sym at ∙ find_none (is_at key u) (reverse entries) d none (among_reverse entries d found.1)))
                  | inr some ↦ ih ∙ some.1 ∙ sym (turned ∙ ap (λ (o : Option Entry). option_or o (find (is_at key u) (e ∷ []))) some.1)
                ]
            | false ↦ λ alone.
                let none : find (is_at key u) (reverse entries) ≡ None =
                elim (option_cases (find (is_at key u) (reverse entries))) [
                  | inl nothing ↦ nothing
                  | inr some ↦
                      let there = find_some (is_at key u) (reverse entries) some.0 some.1 in
                      let at : is_at e.key e.version some.0 ≡ true = at_key_version e.key e.version some.0 (is_at_key key u some.0 there.1 ∙ sym k) (is_at_version key u some.0 there.1 ∙ sym v) in
                      absurd (true≢false (sym (any_from (is_at e.key e.version) some.0 entries (among_back entries some.0 there.0) at) ∙ alone))
                ] in
                ap (λ (b : Bool). cond b (Some e) (find (is_at key u) (latest entries))) hit
                ∙ sym (turned ∙ ap (λ (o : Option Entry). option_or o (find (is_at key u) (e ∷ []))) none ∙ ap (λ (b : Bool). cond b (Some e) None) hit)
          ] refl
    ] refl

-- the versions of a sound state

older_from : (n : ℕ) (parents : Parents) → is_tree_from n parents ≡ true → (i v : ℕ) → v ≡ n + i → IsOlder v (slice_get parents i)
older_from n [] h i v at = tt
older_from n (None ∷ parents) h zero v at =
    let here : n ≡ 0 = eqb-true n 0 (and_parts (eqb n 0) (is_tree_from (suc n) parents) h).0 in omega arith
older_from n (None ∷ parents) h (suc i) v at = older_from (suc n) parents (and_parts (eqb n 0) (is_tree_from (suc n) parents) h).1 i v (omega arith)
older_from n (Some p ∷ parents) h zero v at =
    let here : p < n = ltb-true p n (and_parts (ltb p n) (is_tree_from (suc n) parents) h).0 in omega arith
older_from n (Some p ∷ parents) h (suc i) v at = older_from (suc n) parents (and_parts (ltb p n) (is_tree_from (suc n) parents) h).1 i v (omega arith)

pub tree_from_test : (parents : Parents) → is_tree parents ≡ true → IsTree parents
tree_from_test parents h =
    let parts = and_parts (ltb 0 (length parents)) (is_tree_from 0 parents) h in
    record {
      some = ltb-true 0 (length parents) parts.0;
      older = λ v. older_from 0 parents parts.1 v v (omega arith);
    }

module _ (changes_max versions_max : ℕ) where
  pub clone_known : (parents : Parents) (marks : Marks) (changes version : ℕ) → is_accepted changes_max versions_max parents marks changes (Clone version) ≡ true → version < length parents
  clone_known parents marks changes version h = there_known parents marks version (clone_there changes_max versions_max parents marks changes version h)

  pub tree_accepted : (parents : Parents) (marks : Marks) (changes : ℕ) (c : Change) → IsTree parents → is_accepted changes_max versions_max parents marks changes c ≡ true → IsTree (tree_after parents c)
  tree_accepted parents marks changes (Put version key value) tree h = tree
  tree_accepted parents marks changes (Delete version key) tree h = tree
  tree_accepted parents marks changes (Clone version) tree h = tree_grown parents tree version (clone_known parents marks changes version h)
  tree_accepted parents marks changes (DropVersion version) tree h = tree

  pub accepted_tree : (journal : List Change) (parents : Parents) (marks : Marks) (changes : ℕ) → IsTree parents → are_accepted changes_max versions_max parents marks changes journal ≡ true → IsTree (fold tree_after parents journal)
  accepted_tree [] parents marks changes tree h = tree
  accepted_tree (c ∷ journal) parents marks changes tree h =
      let parts = and_parts (is_accepted changes_max versions_max parents marks changes c) (are_accepted changes_max versions_max (tree_after parents c) (marks_after marks c) (suc changes) journal) h in
      accepted_tree journal (tree_after parents c) (marks_after marks c) (suc changes) (tree_accepted parents marks changes c tree parts.0) parts.1

  pub accepted_pruned : (journal : List Change) (parents : Parents) (marks : Marks) (changes : ℕ) → IsTree parents → ArePruned parents marks → are_accepted changes_max versions_max parents marks changes journal ≡ true
      → ArePruned (fold tree_after parents journal) (fold marks_after marks journal)
  accepted_pruned [] parents marks changes tree pruned h = pruned
  accepted_pruned (c ∷ journal) parents marks changes tree pruned h =
      let parts = and_parts (is_accepted changes_max versions_max parents marks changes c) (are_accepted changes_max versions_max (tree_after parents c) (marks_after marks c) (suc changes) journal) h in
      accepted_pruned journal (tree_after parents c) (marks_after marks c) (suc changes) (tree_accepted parents marks changes c tree parts.0) (pruned_after changes_max versions_max parents marks changes c tree pruned parts.0) parts.1

numbered_parts : (least : ℕ) (first : Level) (levels : List Level) → is_numbered_from least (first ∷ levels) ≡ true → (least ≤ first.number) × (is_numbered_from (suc first.number) levels ≡ true)
numbered_parts least first levels h =
    let outer = and_parts (leb least first.number && leb first.number 22 && ltb 0 (length first.arrays)) (is_numbered_from (suc first.number) levels) h in
    let middle = and_parts (leb least first.number && leb first.number 22) (ltb 0 (length first.arrays)) outer.0 in
    let inner = and_parts (leb least first.number) (leb first.number 22) middle.0 in
    (leb-true least first.number inner.0, outer.1)

module _ (s : State) (formed : IsWellFormed s) where
  pub sound_tree : IsTree (versions_of s)
  sound_tree = accepted_tree s.changes_max s.versions_max s.journal s.parents s.marks s.changes (tree_from_test s.parents formed.tree) formed.accepted

  pub sound_pruned : ArePruned (versions_of s) (marks_of s)
  sound_pruned = accepted_pruned s.changes_max s.versions_max s.journal s.parents s.marks s.changes (tree_from_test s.parents formed.tree) (pruned_from_test s.parents s.marks formed.pruned) formed.accepted

pub ordered : (s : State) → IsSound s → IsOrdered s
ordered s sound = record {
  formed = sound.formed;
  stratified = sound.stratified;
  roomy = sound.roomy;
  old = sound.old;
  described = sound.described;
  few = sound.few;
  ascending = sound.ascending;
}

pub with_settled : (s : State) → IsOrdered s → list_all (is_above_frozen s) s.levels ≡ true → IsSound s
with_settled s is settled = record {
  formed = is.formed;
  stratified = is.stratified;
  roomy = is.roomy;
  old = is.old;
  settled = settled;
  described = is.described;
  few = is.few;
  ascending = is.ascending;
}

module _ (s : State) (sound : IsSound s) where
  -- no lead of a level is nearer to a living version than an entry of a place above it
  settled_order : (level : Level) → Among level s.levels → (e d : Entry) → Among e (journal_updates s ++ flat_map level_leads (shallower s level)) → Among d (level_leads level)
      → (v : ℕ) → is_dropped (marks_of s) v ≡ false → Among e.version (path (versions_of s) v) → Among d.version (path (versions_of s) v) → e.version < d.version → ⊥
  settled_order level here e d above lead v living on_e on_d lt =
      let parents : Parents = versions_of s in
      let between = path_order parents (sound_tree s sound.formed) e.version d.version v on_e on_d lt in
      let child = child_on_path parents (sound_tree s sound.formed) e.version d.version between (λ same. omega arith) in
      let le : child.0 ≤ d.version = path_le parents (sound_tree s sound.formed) child.0 d.version child.2 in
      let low : d.version < level.horizon = lead_below parents (sound_tree s sound.formed) level (each_of (IsStratified parents) s.levels level sound.stratified here) d lead in
      let is_child : (option_map_or (λ p. eqb p e.version) (parent_of parents child.0) false && is_living s child.0) ≡ true =
      and_from (option_map_or (λ p. eqb p e.version) (parent_of parents child.0) false) (is_living s child.0)
      (ap (λ (o : Option ℕ). option_map_or (λ p. eqb p e.version) o false) child.1 ∙ eq-eqb e.version e.version refl)
      (not_from_false (is_dropped (marks_of s) child.0) (path_living parents (sound_tree s sound.formed) (marks_of s) (sound_pruned s sound.formed) child.0 v (path_trans parents (sound_tree s sound.formed) child.0 d.version v child.2 on_d) living)) in
      let has : has_child_below s level.horizon e.version ≡ true =
      any_from (λ c. option_map_or (λ p. eqb p e.version) (parent_of parents c) false && is_living s c) child.0 (range_with_len 0 level.horizon)
      (among_range 0 level.horizon child.0 (omega arith) (omega arith)) is_child in
      let none = all_at (λ x. not (has_child_below s level.horizon x.version)) e (journal_updates s ++ flat_map level_leads (shallower s level)) (all_at (is_above_frozen s) level s.levels sound.settled here) above in
      true≢false (sym has ∙ not-true (has_child_below s level.horizon e.version) none)

  -- levels from some place on, deeper than a number
  deeper : (least : ℕ) (levels : List Level) (level : Level) → is_numbered_from least levels ≡ true → Among level levels → least ≤ level.number
  deeper least [] level numbered among = absurd among
  deeper least (first ∷ levels) level numbered (inl here) =
      let parts = numbered_parts least first levels numbered in
      let le : least ≤ first.number = parts.0 in
      omega (arith, le, ap (λ (x : Level). x.number) here)
  deeper least (first ∷ levels) level numbered (inr there) =
      let parts = numbered_parts least first levels numbered in
      let le : least ≤ first.number = parts.0 in
      let rest : suc first.number ≤ level.number = deeper (suc first.number) levels level parts.1 there in
      omega (arith, le, rest)

  nothing_decides : (key : List ℕ) (v : ℕ) → deciding (versions_of s) [] key v ≡ None
  nothing_decides key v =
      elim (option_cases (deciding (versions_of s) [] key v)) [
        | inl none ↦ none
        | inr e ↦ let decides = deciding_some (versions_of s) (sound_tree s sound.formed) [] key v e.0 e.1 in absurd decides.among
      ]

  module _ (key : List ℕ) (v : ℕ) (known : v < length (versions_of s)) (living : is_dropped (marks_of s) v ≡ false) where
    levels_decide : (levels : List Level) (least : ℕ) → is_numbered_from least levels ≡ true → ((level : Level) → Among level levels → Among level s.levels)
        → found_first (versions_of s) levels v key ≡ deciding (versions_of s) (flat_map level_leads levels) key v
    levels_decide [] least numbered inside = sym (nothing_decides key v)
    levels_decide (first ∷ levels) least numbered inside =
        let parents : Parents = versions_of s in
        let parts = numbered_parts least first levels numbered in
        let here = inside first (inl refl) in
        let reads : found_in parents first v key ≡ deciding parents (level_leads first) key v =
        found_in_leads parents (sound_tree s sound.formed) first (each_of (IsStratified parents) s.levels first sound.stratified here) key v
        (all_at (λ level. list_all has_ascending_entries level.arrays) first s.levels sound.ascending here) known in
        ap (λ (o : Option Entry). option_or o (found_first parents levels v key)) reads
        ∙ ap (option_or (deciding parents (level_leads first) key v)) (levels_decide levels (suc first.number) parts.1 (λ level among. inside level (inr among)))
        ∙ sym (deciding-append parents (sound_tree s sound.formed) key (level_leads first) (flat_map level_leads levels) v (λ e d a b on_e on_d lt.
        let at = among_flat level_leads levels d b in
        let level = at.0 in
        let there = inside level (inr at.1) in
        let number : first.number < level.number = deeper (suc first.number) levels level parts.1 at.1 in
        let above = among_in_flat level_leads (shallower s level) first e (among_filter (λ other. ltb other.number level.number) s.levels first here (lt-ltb first.number level.number number)) a in
        settled_order level there e d (among_right (journal_updates s) (flat_map level_leads (shallower s level)) e above) at.2 v living on_e on_d lt))

    -- reading place by place finds what decides among all that the state says
    pub read_decides : read_at s v key ≡ deciding (versions_of s) (sources s) key v
    read_decides =
        let parents : Parents = versions_of s in
        let zero' : live_of parents (level_zero s) v key ≡ deciding parents (reverse (journal_updates s)) key v =
        deciding_live parents (sound_tree s sound.formed) (latest (journal_updates s)) key v (latest_single (journal_updates s))
        ∙ (λ i. first_some (λ u. find-latest key u (journal_updates s) i) (path parents v)) in
        ap (λ (o : Option Entry). option_or o (found_first parents s.levels v key)) zero'
        ∙ ap (option_or (deciding parents (reverse (journal_updates s)) key v)) (levels_decide s.levels 1 sound.formed.numbered (λ level among. among))
        ∙ sym (deciding-append parents (sound_tree s sound.formed) key (reverse (journal_updates s)) (flat_map level_leads s.levels) v (λ e d a b on_e on_d lt.
        let at = among_flat level_leads s.levels d b in
        settled_order at.0 at.1 e d (among_left (journal_updates s) (flat_map level_leads (shallower s at.0)) e (among_back (journal_updates s) e a)) at.2 v living on_e on_d lt))
