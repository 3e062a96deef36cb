-- What a caller sees of counts over the items of many keys.
use Rattle.std.specs.Prelude.{ℕ, Bool, List, sum}
use Rattle.strat_tree.specs.Preorder.{Numbering}

-- for each version, how many items it has, at how many keys it has one while its parent sees none, and
-- how many keys have an item live at it; and an order of the versions, once they are numbered
pub record Tallies : Type 0 where
  pub own : List ℕ
  pub begun : List ℕ
  pub live : List ℕ
  pub is_numbered : Bool
  pub order : Numbering

-- how many items were counted
abbrev pub items_counted : Tallies → ℕ
items_counted tallies = sum tallies.own
