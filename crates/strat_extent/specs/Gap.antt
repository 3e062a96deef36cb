-- A place among runs.
use Rattle.std.specs.Prelude.{◌≡◌, ℕ, ◌+◌, ◌<◌, ◌≤◌, List, take, drop, length, slice_index_or}
use Rattle.strat_base.specs.declared.descriptors.Extent.{Extent}
use Rattle.strat_extent.specs.Blocks.{AreRuns, times_in}

-- the runs before a place start at or below a block, and the others above it
pub record IsHolePlace (rs : List Extent) (block i : ℕ) : Type 0 where
  pub before : (k : ℕ) (d : Extent) → k < i → (slice_index_or rs k d).start ≤ block
  pub after : (k : ℕ) (d : Extent) → i ≤ k → k < length rs → block < (slice_index_or rs k d).start

-- the runs before a place stand from low on and below a block, and the others from another block on and below high
pub record IsGap (low : ℕ) (rs : List Extent) (i from to high : ℕ) : Type 0 where
  pub before : AreRuns low (take i rs) from
  pub after : AreRuns to (drop i rs) high

-- a run has no block that this one of the runs hasn't
pub record IsInHole (rs : List Extent) (i : ℕ) (run : Extent) : Type 0 where
  pub within : i < length rs
  pub start : (d : Extent) → (slice_index_or rs i d).start ≤ run.start
  pub end : (d : Extent)
      → run.start + run.len ≤ (slice_index_or rs i d).start + (slice_index_or rs i d).len

-- a run has a block from low on and below high that is in none of the runs
pub record HasUsedBlock (low : ℕ) (rs : List Extent) (high : ℕ) (run : Extent) : Type 0 where
  pub block : ℕ
  pub from : run.start ≤ block
  pub to : block < run.start + run.len
  pub above : low ≤ block
  pub below : block < high
  pub none : times_in rs block ≡ 0
