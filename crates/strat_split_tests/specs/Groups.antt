-- Groups of items that are drawn from the greatest version down.
use Rattle.std.specs.Prelude.{ℕ, ◌+◌, ◌≤◌, nat_le, List, length, IsTrue}
use Rattle.std.specs.List.{list_all}
use Rattle.strat_arena.specs.declared.items.Item.{Item}
use Rattle.strat_live.specs.Counting.{are_below}
use Rattle.strat_live.specs.Group.{is_descending}

-- these are items of one key at versions from v on
pub record IsGroupFrom (v versions : ℕ) (items : List Item) : Type 0 where
  pub down : IsTrue (is_descending items)
  pub below : IsTrue (are_below versions items)
  pub above : IsTrue (list_all (λ item. nat_le v item.version) items)
  pub few : length items + v ≤ versions
