-- Extents that were taken or marked and not given back.
use Rattle.std.specs.Prelude.{ℕ, ◌≤◌, List}
use Rattle.std.specs.List.{sum_by}
use Rattle.strat_base.specs.declared.descriptors.Extent.{Extent}
use Rattle.strat_extent.specs.Blocks.{SpaceView, times_in, uses}

-- the blocks of all these parts are used, each once
abbrev pub AreHeld : SpaceView → List (List Extent) → Type 0
AreHeld s parts = (b : ℕ) → sum_by (λ xs. times_in xs b) parts ≤ uses s b
