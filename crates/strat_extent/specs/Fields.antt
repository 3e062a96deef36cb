-- The fields of a space.
use Rattle.std.specs.Prelude.{◌≡◌, ◌+◌, ◌<◌, ◌≤◌, ◌^◌}
use Rattle.std.specs.VecDeque.{deque_capacity}
use Rattle.strat_extent.specs.Blocks.{SpaceView, AreRuns, total_len}
use Rattle.strat_extent.specs.declared.space.Space.TheInside.{Inside}

-- the space of these fields
abbrev pub space_of : Inside → SpaceView
space_of a = record { first = a.first; end = a.end; holes = a.holes.items }

-- the holes are runs below the end, the count is that of the used blocks, and there is room for as many holes
pub record IsSpace (a : Inside) : Type 0 where
  pub order : a.first ≤ a.end
  pub fits : a.end < 2 ^ 32
  pub runs : AreRuns a.first a.holes.items a.end
  pub count : a.used + total_len a.holes.items + a.first ≡ a.end
  pub room : a.used ≤ deque_capacity a.holes
