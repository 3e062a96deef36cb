-- As many steps as a version is deep lead to version 0.
use Rattle.std.proofs.Common.{◌≡◌, ◌<◌, ◌≤◌, ◌-◌, ◌^◌, ℕ, zero, suc, Some, length, refl, ap, ◌∙◌, arith}
use Rattle.strat_base.specs.Tree.{Parents, parent_of, path, depth, IsTree}
use Rattle.strat_base.proofs.TreeLemmas.{parent_older, root_is_zero, path_up, along_path}
use Rattle.strat_tree.specs.Ancestor.{ancestor_at}
use Rattle.strat_tree.proofs.AncestorLemmas.{IsWalk, at_le, up_some}
use Rattle.strat_tree.proofs.GrownLemmas.{path_some}

module _ (parents : Parents) (tree : IsTree parents) where
  at_top : (v : ℕ) → v < length parents → (n : ℕ) → length (path parents v) - 1 ≤ n → ancestor_at parents n v ≡ 0
  unfolding ancestor_at
  at_top = along_path parents tree (λ v. v < length parents → (n : ℕ) → length (path parents v) - 1 ≤ n → ancestor_at parents n v ≡ 0)
      (λ v none known n long.
      let zero' : v ≡ 0 = root_is_zero parents tree v known none in
      let low = at_le parents tree n v in
      omega (arith, low, zero'))
      (λ v p some ih known n long.
      let more = ap length (path_up parents tree v p some) in
      let older : p < v = parent_older parents tree v p some in
      let one = path_some parents tree p in
      go v p some (ih (omega arith)) n long more one)
    where
      go : (v p : ℕ) → parent_of parents v ≡ Some p → ((n : ℕ) → length (path parents p) - 1 ≤ n → ancestor_at parents n p ≡ 0) → (n : ℕ) → length (path parents v) - 1 ≤ n → length (path parents v) ≡ suc (length (path parents p)) → 1 ≤ length (path parents p)
          → ancestor_at parents n v ≡ 0
      go v p some ih zero long more one = absurd (omega arith)
      go v p some ih (suc n) long more one = ap (ancestor_at parents n) (up_some parents v p some) ∙ ih n (omega arith)

  pub walk_begins_deep : (v h i : ℕ) → 0 < h → v < length parents → h ≤ v → depth parents v < 2 ^ i → IsWalk parents v h v i
  walk_begins_deep v h i positive known above deep =
      let top : ancestor_at parents (2 ^ i) v ≡ 0 = at_top v known (2 ^ i) (omega arith) in
      record { known = known; above = above; same = refl; far = omega (arith, top) }
