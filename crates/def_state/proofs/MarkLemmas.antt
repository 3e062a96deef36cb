-- Marks of dropped versions, in a tree and while changes come.
use Rattle.std.proofs.Common.{◌≡◌, ◌<◌, ℕ, zero, suc, Bool, true, false, eqb, not, ◌&&◌, ◌||◌, inl, inr, List, [], ◌∷◌, ◌++◌, length, set, get_or, Option, Some, None, refl, sym, ap, ◌∙◌, arith, true≢false}
use Rattle.std.specs.List.{list_all, fold, range_with_len}
use Rattle.std.specs.Option.{option_map_or}
use Rattle.std.proofs.lemmas.Bool.{cases_Bool, cases_eq, eqb-true, eqb-false, eq-eqb, ltb-true, and_parts, and_from, or_cases, or_left, or_right, not-true, not_from_false, false_from_ne_true}
use Rattle.strat_base.specs.Tree.{Parents, parent_of, path, is_known, IsTree}
use Rattle.strat_base.specs.Marks.{Marks, is_dropped, has_living_child, are_pruned, ArePruned}
use Rattle.strat_base.specs.Change.{Change, Put, Delete, Clone, DropVersion}
use Rattle.strat_base.proofs.ListFacts.{Among, all_at, all_from, any_from, among_range}
use Rattle.strat_base.proofs.PrunedLemmas.{mark_kept, parent_there, pruned_grown, pruned_dropped}
use Rattle.strat_base.proofs.TreeLemmas.{along_path, on_root, on_path, child_on_path}
use Rattle.def_state.specs.State.{tree_after, marks_after}
use Rattle.def_state.specs.Sound.{is_there, takes_updates, is_droppable, is_accepted}

pub pruned_from_test : (parents : Parents) (marks : Marks) → are_pruned parents marks ≡ true → ArePruned parents marks
pruned_from_test parents marks h =
    let each : ℕ → Bool = λ v. option_map_or (λ p. not (is_dropped marks p) || is_dropped marks v) (parent_of parents v) true in
    let outer = and_parts (eqb (length marks) (length parents) && not (is_dropped marks 0)) (list_all each (range_with_len 0 (length parents))) h in
    let inner = and_parts (eqb (length marks) (length parents)) (not (is_dropped marks 0)) outer.0 in
    record {
      len = eqb-true (length marks) (length parents) inner.0;
      root = not-true (is_dropped marks 0) inner.1;
      down = λ v p some dropped.
          let at = all_at each v (range_with_len 0 (length parents)) outer.1 (among_range 0 (length parents) v (omega arith) (let low = parent_there parents v p some in omega (arith, low))) in
          let here : (not (is_dropped marks p) || is_dropped marks v) ≡ true = sym (ap (λ (o : Option ℕ). option_map_or (λ q. not (is_dropped marks q) || is_dropped marks v) o true) some) ∙ at in
          elim (or_cases (not (is_dropped marks p)) (is_dropped marks v) here) [
            | inl lives ↦ absurd (true≢false (sym dropped ∙ not-true (is_dropped marks p) lives))
            | inr gone ↦ gone
          ];
    }

module _ (parents : Parents) (tree : IsTree parents) (marks : Marks) (pruned : ArePruned parents marks) where
  -- the parent of a living version is living
  pub parent_living : (v p : ℕ) → parent_of parents v ≡ Some p → is_dropped marks v ≡ false → is_dropped marks p ≡ false
  parent_living v p some living =
      false_from_ne_true (is_dropped marks p) (λ dropped. true≢false (sym (pruned.down v p some dropped) ∙ living))

  -- and so are all its ancestors
  pub path_living : (u v : ℕ) → Among u (path parents v) → is_dropped marks v ≡ false → is_dropped marks u ≡ false
  path_living u = along_path parents tree (λ v. Among u (path parents v) → is_dropped marks v ≡ false → is_dropped marks u ≡ false)
      (λ v none among living. ap (is_dropped marks) (on_root parents tree u v none among) ∙ living)
      (λ v p some ih among living.
      elim (on_path parents tree u v p some among) [
        | inl here ↦ ap (is_dropped marks) here ∙ living
        | inr there ↦ ih there (parent_living v p some living)
      ])

  -- a version without a living child is an ancestor of no other living version
  pub open_apart : (v u : ℕ) → has_living_child parents marks v ≡ false → is_dropped marks u ≡ false → Among v (path parents u) → u ≡ v
  open_apart v u none living on =
      elim (cases_eq u v) [
        | inl same ↦ same
        | inr apart ↦
            let child = child_on_path parents tree v u on (λ same. apart (sym same)) in
            let lives = path_living child.0 u child.2 living in
            let low = parent_there parents child.0 v child.1 in
            absurd (true≢false (sym (any_from (λ c. option_map_or (λ p. eqb p v) (parent_of parents c) false && not (is_dropped marks c)) child.0 (range_with_len 0 (length parents))
            (among_range 0 (length parents) child.0 (omega arith) (omega (arith, low)))
            (and_from (option_map_or (λ p. eqb p v) (parent_of parents child.0) false) (not (is_dropped marks child.0))
            (ap (λ (o : Option ℕ). option_map_or (λ p. eqb p v) o false) child.1 ∙ eq-eqb v v refl)
            (not_from_false (is_dropped marks child.0) lives))) ∙ none))
      ]

-- one more mark that is set
get_set : (marks : Marks) (v u : ℕ) → get_or marks u false ≡ true → get_or (set marks v true) u false ≡ true
get_set [] v u is = is
get_set (m ∷ marks) zero zero is = refl
get_set (m ∷ marks) zero (suc u) is = is
get_set (m ∷ marks) (suc v) zero is = is
get_set (m ∷ marks) (suc v) (suc u) is = get_set marks v u is

-- what was dropped stays so
pub dropped_stays : (marks : Marks) (c : Change) (v : ℕ) → is_dropped marks v ≡ true → is_dropped (marks_after marks c) v ≡ true
dropped_stays marks (Put w key value) v is = is
dropped_stays marks (Delete w key) v is = is
dropped_stays marks (Clone w) v is = mark_kept marks v ∙ is
dropped_stays marks (DropVersion w) v is = get_set marks w v is

pub dropped_stay : (journal : List Change) (marks : Marks) (v : ℕ) → is_dropped marks v ≡ true → is_dropped (fold marks_after marks journal) v ≡ true
dropped_stay [] marks v is = is
dropped_stay (c ∷ journal) marks v is = dropped_stay journal (marks_after marks c) v (dropped_stays marks c v is)

pub living_was : (journal : List Change) (marks : Marks) (v : ℕ) → is_dropped (fold marks_after marks journal) v ≡ false → is_dropped marks v ≡ false
living_was journal marks v living = false_from_ne_true (is_dropped marks v) (λ dropped. true≢false (sym (dropped_stay journal marks v dropped) ∙ living))

pub there_known : (parents : Parents) (marks : Marks) (v : ℕ) → is_there parents marks v ≡ true → v < length parents
there_known parents marks v h = ltb-true v (length parents) (and_parts (is_known parents v) (not (is_dropped marks v)) h).0

pub there_living : (parents : Parents) (marks : Marks) (v : ℕ) → is_there parents marks v ≡ true → is_dropped marks v ≡ false
there_living parents marks v h = not-true (is_dropped marks v) (and_parts (is_known parents v) (not (is_dropped marks v)) h).1

pub open_there : (parents : Parents) (marks : Marks) (v : ℕ) → takes_updates parents marks v ≡ true → is_there parents marks v ≡ true
open_there parents marks v h = (and_parts (is_there parents marks v) (not (has_living_child parents marks v)) h).0

pub open_childless : (parents : Parents) (marks : Marks) (v : ℕ) → takes_updates parents marks v ≡ true → has_living_child parents marks v ≡ false
open_childless parents marks v h = not-true (has_living_child parents marks v) (and_parts (is_there parents marks v) (not (has_living_child parents marks v)) h).1

module _ (changes_max versions_max : ℕ) (parents : Parents) (marks : Marks) (n : ℕ) where
  pub put_open : (v : ℕ) (key value : List ℕ) → is_accepted changes_max versions_max parents marks n (Put v key value) ≡ true → takes_updates parents marks v ≡ true
  put_open v key value h = (and_parts (takes_updates parents marks v) (not (eqb n changes_max)) h).0

  pub delete_open : (v : ℕ) (key : List ℕ) → is_accepted changes_max versions_max parents marks n (Delete v key) ≡ true → takes_updates parents marks v ≡ true
  delete_open v key h = (and_parts (takes_updates parents marks v) (not (eqb n changes_max)) h).0

  pub clone_there : (v : ℕ) → is_accepted changes_max versions_max parents marks n (Clone v) ≡ true → is_there parents marks v ≡ true
  clone_there v h =
      (and_parts (is_there parents marks v) (not (eqb (length parents) versions_max)) (and_parts (is_there parents marks v && not (eqb (length parents) versions_max)) (not (eqb n changes_max)) h).0).0

  pub droppable_open : (v : ℕ) → is_droppable changes_max parents marks n v ≡ true → (takes_updates parents marks v ≡ true) × (eqb v 0 ≡ false)
  droppable_open v h =
      let outer = and_parts (takes_updates parents marks v && not (eqb v 0)) (not (eqb n changes_max)) h in
      let inner = and_parts (takes_updates parents marks v) (not (eqb v 0)) outer.0 in
      (inner.0, not-true (eqb v 0) inner.1)

-- a tree that was pruned stays so while changes are accepted
module _ (changes_max versions_max : ℕ) where
  pub pruned_after : (parents : Parents) (marks : Marks) (n : ℕ) (c : Change) → IsTree parents → ArePruned parents marks → is_accepted changes_max versions_max parents marks n c ≡ true
      → ArePruned (tree_after parents c) (marks_after marks c)
  pruned_after parents marks n (Put v key value) tree pruned h = pruned
  pruned_after parents marks n (Delete v key) tree pruned h = pruned
  pruned_after parents marks n (Clone w) tree pruned h =
      let here = clone_there changes_max versions_max parents marks n w h in
      pruned_grown parents tree marks pruned w (there_known parents marks w here) (there_living parents marks w here)
  pruned_after parents marks n (DropVersion w) tree pruned h =
      let at = droppable_open changes_max versions_max parents marks n w h in
      let apart = eqb-false w 0 at.1 in
      pruned_dropped parents tree marks pruned w (omega (arith, apart)) (there_known parents marks w (open_there parents marks w at.0)) (open_childless parents marks w at.0)

-- a pruned tree passes the test
pub pruned_test : (parents : Parents) (marks : Marks) → ArePruned parents marks → are_pruned parents marks ≡ true
pruned_test parents marks pruned =
    let each : ℕ → Bool = λ v. option_map_or (λ p. not (is_dropped marks p) || is_dropped marks v) (parent_of parents v) true in
    and_from (eqb (length marks) (length parents) && not (is_dropped marks 0)) (list_all each (range_with_len 0 (length parents)))
    (and_from (eqb (length marks) (length parents)) (not (is_dropped marks 0)) (eq-eqb (length marks) (length parents) pruned.len) (not_from_false (is_dropped marks 0) pruned.root))
    (all_from each (range_with_len 0 (length parents)) (λ v among. go v (parent_of parents v) refl))
  where
    go : (v : ℕ) (o : Option ℕ) → parent_of parents v ≡ o → option_map_or (λ p. not (is_dropped marks p) || is_dropped marks v) o true ≡ true
    go v None is = refl
    go v (Some p) is =
        elim (cases_Bool (is_dropped marks p)) [
          | inl dropped ↦ or_right (not (is_dropped marks p)) (is_dropped marks v) (pruned.down v p is dropped)
          | inr living ↦ or_left (not (is_dropped marks p)) (is_dropped marks v) (not_from_false (is_dropped marks p) living)
        ]
