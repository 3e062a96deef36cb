-- The fields of a tree of versions.
use Rattle.std.specs.Prelude.{◌≡◌, ◌≤◌, length, vec_capacity}
use Rattle.strat_base.specs.Tree.{IsTree}
use Rattle.strat_base.specs.Marks.{ArePruned}
use Rattle.strat_tree.specs.TreeView.{TreeView}
use Rattle.strat_tree.specs.Jumps.{IsIndex}
use Rattle.strat_tree.specs.Living.{AreLivingCounts}
use Rattle.strat_tree.specs.Preorder.{OrdersFirst}
use Rattle.strat_tree.specs.declared.tree.Tree.TheInside.{Inside}

-- the tree of these fields
abbrev pub tree_of : Inside → TreeView
tree_of a = record {
  parents = a.parents.items;
  marks = a.dropped.items;
  versions_max = a.versions_max;
}

-- the fields are those of a tree, with room for every version that there may be
pub record IsIndexed (a : Inside) : Type 0 where
  pub tree : IsTree a.parents.items
  pub fits : length a.parents.items ≤ a.versions_max
  pub few : a.versions_max ≤ 16384
  pub index : IsIndex a.parents.items a.depths.items a.inner.items a.jumps.items
  pub pruned : ArePruned a.parents.items a.dropped.items
  pub counted : AreLivingCounts a.parents.items a.dropped.items a.living.items
  pub parents_room : a.versions_max ≤ vec_capacity a.parents
  pub depths_room : a.versions_max ≤ vec_capacity a.depths
  pub inner_room : a.versions_max ≤ vec_capacity a.inner
  pub jumps_room : a.versions_max ≤ vec_capacity a.jumps
  pub dropped_room : a.versions_max ≤ vec_capacity a.dropped
  pub living_room : a.versions_max ≤ vec_capacity a.living
  pub numbered_fits : a.numbered ≤ length a.parents.items
  pub order_room : length a.order.starts ≡ a.versions_max
  pub ordered : OrdersFirst a.numbered a.parents.items a.order
