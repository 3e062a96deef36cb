-- What is left of an order of versions while its tree grows.
use Rattle.std.proofs.Common.{◌<◌, ◌≤◌, ◌∙◌, ℕ, List, length, eqb, ap, arith}
use Rattle.std.specs.List.{list_any}
use Rattle.strat_base.specs.Tree.{Parents, with_child, IsTree}
use Rattle.strat_base.proofs.TreeLemmas.{path_kept}
use Rattle.strat_tree.specs.Preorder.{Numbering, OrdersFirst}

-- a version that is added is on no path of those before it
pub order_grown : (parents : Parents) → IsTree parents → (p : ℕ) → p < length parents → (n : ℕ) (order : Numbering) → n ≤ length parents
    → OrdersFirst n parents order → OrdersFirst n (with_child parents p) order
order_grown parents tree p known n order few is =
    λ u v lt within. ap (λ (xs : List ℕ). list_any (λ w. eqb w u) xs) (path_kept parents tree p known v (omega arith)) ∙ is u v lt within
