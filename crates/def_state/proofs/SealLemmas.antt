-- A journal in two parts is looked up as one.
use Rattle.std.proofs.Common.{◌≡◌, ◌<◌, ◌≤◌, ℕ, zero, suc, true, false, eqb, not, set, ◌&&◌, inl, inr, List, [], ◌∷◌, ◌++◌, length, reverse, Option, Some, None, refl, sym, ap, ◌∙◌, arith, true≢false, length-append}
use Rattle.std.specs.List.{fold, filter_map, slice_get, range_with_len}
use Rattle.std.specs.Option.{option_or, option_and_then, option_map_or}
use Rattle.std.proofs.lemmas.Bool.{eq-eqb, and_parts, and_from, not_from_false}
use Rattle.std.proofs.lemmas.List.{reverse-append}
use Rattle.std.proofs.lemmas.List.Sums.{fold-append}
use Rattle.strat_base.specs.Change.{Change, Put, Delete, Clone, DropVersion}
use Rattle.strat_base.specs.Marks.{Marks, is_dropped, has_living_child}
use Rattle.def_state.proofs.MarkLemmas.{open_childless, put_open, delete_open, living_was, path_living}
use Rattle.def_state.proofs.StepMaps.{known_updates}
use Rattle.strat_base.specs.Entries.{Entry, latest}
use Rattle.strat_base.specs.Tree.{Parents, parent_of, path, with_child}
use Rattle.strat_base.proofs.ListFacts.{Among, any_from, among_range, filter_map-append}
use Rattle.strat_base.proofs.TreeLemmas.{path_le, path_order, path_trans, child_on_path}
use Rattle.def_state.specs.Live.{first_some, deciding}
use Rattle.def_state.specs.LookUp.{looked_up, of_state}
use Rattle.def_state.specs.Reading.{live_of, found_first, read_at}
use Rattle.def_state.specs.Sound.{is_accepted, are_accepted, IsSound}
use Rattle.def_state.specs.State.{State, versions_of, marks_of, tree_after, marks_after, update_of, journal_updates}
use Rattle.def_state.proofs.LiveLemmas.{deciding_live}
use Rattle.def_state.proofs.LookUpLemmas.{levels_read}
use Rattle.def_state.proofs.ReadingLemmas.{deciding-append}
use Rattle.def_state.proofs.SoundLemmas.{sound_tree, sound_pruned, latest_single, find-latest, among_back}

slice_kept : {X : Type 0} (xs : List X) (x : X) (i : ℕ) → i < length xs → slice_get (xs ++ x ∷ []) i ≡ slice_get xs i
slice_kept [] x i lt = absurd (omega arith)
slice_kept (y ∷ xs) x zero lt = refl
slice_kept (y ∷ xs) x (suc i) lt = slice_kept xs x i (omega arith)

-- versions keep their parents while changes come
parent_stays : (journal : List Change) (parents : Parents) (c : ℕ) → c < length parents → parent_of (fold tree_after parents journal) c ≡ parent_of parents c
parent_stays [] parents c lt = refl
parent_stays (Put v key value ∷ journal) parents c lt = parent_stays journal parents c lt
parent_stays (Delete v key ∷ journal) parents c lt = parent_stays journal parents c lt
parent_stays (DropVersion v ∷ journal) parents c lt = parent_stays journal parents c lt
parent_stays (Clone v ∷ journal) parents c lt =
    let longer : c < length (with_child parents v) = omega (arith, lt, length-append parents (Some v ∷ [])) in
    parent_stays journal (with_child parents v) c longer
    ∙ ap (λ (o : Option (Option ℕ)). option_and_then (λ parent. parent) o) (slice_kept parents (Some v) c lt)

or_or : (a b c : Option Entry) → option_or (option_or a b) c ≡ option_or a (option_or b c)
or_or None b c = refl
or_or (Some x) b c = refl

module _ (changes_max versions_max : ℕ) where
  -- no living version that was there before an update is a child of its version
  childless : (parents : Parents) (marks : Marks) (v c : ℕ) (journal : List Change) → has_living_child parents marks v ≡ false → c < length parents → parent_of (fold tree_after parents journal) c ≡ Some v
      → is_dropped (fold marks_after marks journal) c ≡ false → ⊥
  childless parents marks v c journal none lt is living =
      true≢false (sym (any_from (λ x. option_map_or (λ p. eqb p v) (parent_of parents x) false && not (is_dropped marks x)) c (range_with_len 0 (length parents)) (among_range 0 (length parents) c (omega arith) (omega (arith, lt)))
      (and_from (option_map_or (λ p. eqb p v) (parent_of parents c) false) (not (is_dropped marks c))
      (ap (λ (o : Option ℕ). option_map_or (λ p. eqb p v) o false) (sym (parent_stays journal parents c lt) ∙ is) ∙ eq-eqb v v refl)
      (not_from_false (is_dropped marks c) (living_was journal marks c living)))) ∙ none)

  pub no_child : (journal : List Change) (parents : Parents) (marks : Marks) (n : ℕ) (e : Entry) (c : ℕ) → are_accepted changes_max versions_max parents marks n journal ≡ true → Among e (filter_map update_of journal)
      → c < length parents → parent_of (fold tree_after parents journal) c ≡ Some e.version → is_dropped (fold marks_after marks journal) c ≡ false → ⊥
  no_child [] parents marks n e c all' among lt is living = among
  no_child (Put v key value ∷ journal) parents marks n e c all' among lt is living =
      let parts = and_parts (is_accepted changes_max versions_max parents marks n (Put v key value)) (are_accepted changes_max versions_max parents marks (suc n) journal) all' in
      elim among [
        | inl same ↦ childless parents marks v c journal (open_childless parents marks v (put_open changes_max versions_max parents marks n v key value parts.0)) lt (is ∙ ap (λ (x : Entry). Some x.version) same) living
        | inr later ↦ no_child journal parents marks (suc n) e c parts.1 later lt is living
      ]
  no_child (Delete v key ∷ journal) parents marks n e c all' among lt is living =
      let parts = and_parts (is_accepted changes_max versions_max parents marks n (Delete v key)) (are_accepted changes_max versions_max parents marks (suc n) journal) all' in
      elim among [
        | inl same ↦ childless parents marks v c journal (open_childless parents marks v (delete_open changes_max versions_max parents marks n v key parts.0)) lt (is ∙ ap (λ (x : Entry). Some x.version) same) living
        | inr later ↦ no_child journal parents marks (suc n) e c parts.1 later lt is living
      ]
  no_child (Clone v ∷ journal) parents marks n e c all' among lt is living =
      let parts = and_parts (is_accepted changes_max versions_max parents marks n (Clone v)) (are_accepted changes_max versions_max (with_child parents v) (marks ++ false ∷ []) (suc n) journal) all' in
      no_child journal (with_child parents v) (marks ++ false ∷ []) (suc n) e c parts.1 among (omega (arith, lt, length-append parents (Some v ∷ []))) is living
  no_child (DropVersion v ∷ journal) parents marks n e c all' among lt is living =
      let parts = and_parts (is_accepted changes_max versions_max parents marks n (DropVersion v)) (are_accepted changes_max versions_max parents (set marks v true) (suc n) journal) all' in
      no_child journal parents (set marks v true) (suc n) e c parts.1 among lt is living

  accepted_parts : (older newer : List Change) (parents : Parents) (marks : Marks) (n : ℕ) → are_accepted changes_max versions_max parents marks n (older ++ newer) ≡ true
      → (are_accepted changes_max versions_max parents marks n older ≡ true) × (m : ℕ) × (are_accepted changes_max versions_max (fold tree_after parents older) (fold marks_after marks older) m newer ≡ true)
  accepted_parts [] newer parents marks n all' = (refl, n, all')
  accepted_parts (c ∷ older) newer parents marks n all' =
      let parts = and_parts (is_accepted changes_max versions_max parents marks n c) (are_accepted changes_max versions_max (tree_after parents c) (marks_after marks c) (suc n) (older ++ newer)) all' in
      let rest = accepted_parts older newer (tree_after parents c) (marks_after marks c) (suc n) parts.1 in
      (and_from (is_accepted changes_max versions_max parents marks n c) (are_accepted changes_max versions_max (tree_after parents c) (marks_after marks c) (suc n) older) parts.0 rest.0, rest.1, rest.2)

module _ (s : State) (sound : IsSound s) (older newer : List Change) (split : s.journal ≡ older ++ newer) (v : ℕ) (living : is_dropped (marks_of s) v ≡ false) (key : List ℕ) where
  abbrev sealed : List Entry
  sealed = filter_map update_of older

  abbrev recent : List Entry
  recent = filter_map update_of newer

  -- no recent update is further from a version than one that was sealed
  sealed_order : (e d : Entry) → Among e recent → Among d sealed → Among e.version (path (versions_of s) v) → Among d.version (path (versions_of s) v) → e.version < d.version → ⊥
  sealed_order e d new old on_e on_d lt =
      let parents : Parents = versions_of s in
      let between : Parents = fold tree_after s.parents older in
      let tree = sound_tree s sound.formed in
      let middle : Marks = fold marks_after s.marks older in
      let parts = accepted_parts s.changes_max s.versions_max older newer s.parents s.marks s.changes (ap (are_accepted s.changes_max s.versions_max s.parents s.marks s.changes) (sym split) ∙ sound.formed.accepted) in
      let whole : parents ≡ fold tree_after between newer = ap (fold tree_after s.parents) split ∙ fold-append tree_after s.parents older newer in
      let marks : marks_of s ≡ fold marks_after middle newer = ap (fold marks_after s.marks) split ∙ fold-append marks_after s.marks older newer in
      let known : d.version < length between = known_updates s.changes_max s.versions_max older s.parents s.marks s.changes parts.0 d old in
      let child = child_on_path parents tree e.version d.version (path_order parents tree e.version d.version v on_e on_d lt) (λ same. omega arith) in
      let le : child.0 ≤ d.version = path_le parents tree child.0 d.version child.2 in
      let lives = path_living parents tree (marks_of s) (sound_pruned s sound.formed) child.0 v (path_trans parents tree child.0 d.version v child.2 on_d) living in
      no_child s.changes_max s.versions_max newer between middle parts.1 e child.0 parts.2 new (omega (arith, le, known)) (ap (λ (p : Parents). parent_of p child.0) (sym whole) ∙ child.1)
      (ap (λ (m : Marks). is_dropped m child.0) (sym marks) ∙ lives)

  list_decides : (entries : List Entry) → live_of (versions_of s) (latest entries) v key ≡ deciding (versions_of s) (reverse entries) key v
  list_decides entries =
      deciding_live (versions_of s) (sound_tree s sound.formed) (latest entries) key v (latest_single entries)
      ∙ (λ i. first_some (λ u. find-latest key u entries i) (path (versions_of s) v))

  pub sealed_read : looked_up of_state (versions_of s) (latest recent ∷ latest sealed ∷ []) s.levels v key ≡ read_at s v key
  sealed_read =
      let parents : Parents = versions_of s in
      let rest : Option Entry = found_first parents s.levels v key in
      let turned : reverse (journal_updates s) ≡ reverse recent ++ reverse sealed =
      ap (λ (j : List Change). reverse (filter_map update_of j)) split ∙ ap reverse (filter_map-append update_of older newer) ∙ reverse-append sealed recent in
      let both : deciding parents (reverse recent ++ reverse sealed) key v ≡ option_or (deciding parents (reverse recent) key v) (deciding parents (reverse sealed) key v) =
      deciding-append parents (sound_tree s sound.formed) key (reverse recent) (reverse sealed) v (λ e d a b on_e on_d lt. sealed_order e d (among_back recent e a) (among_back sealed d b) on_e on_d lt) in
      (λ i. option_or (list_decides recent i) (option_or (list_decides sealed i) (levels_read parents v key s.levels i)))
      ∙ sym (or_or (deciding parents (reverse recent) key v) (deciding parents (reverse sealed) key v) rest)
      ∙ ap (λ (o : Option Entry). option_or o rest) (sym both ∙ ap (λ (x : List Entry). deciding parents x key v) (sym turned) ∙ sym (list_decides (journal_updates s)))
