-- What stays between two slices of a promotion.
use Rattle.strat_array.specs.Taking.{AreUsed}
use Rattle.def_crash.specs.Blocks.{AgreeOn}
use Rattle.def_crash.specs.Image.{Image}
use Rattle.strat_extent.specs.Blocks.{SpaceView}
use Rattle.def_bytes.specs.Arrays.{blocks_of}
use Rattle.strat_promote.specs.Closing.{AreAllUsed}
use Rattle.strat_promote.specs.Job.{Job, blocks_listed}
use Rattle.strat_promote.specs.Promotions.{extents_taken, writers_of}
use Rattle.strat_promote.specs.declared.promotion.Promotion.{Promotion}

-- two images have the same bytes where a promotion of a job reads, and where it has written
pub record KeepsItsBlocks (f g : Image) (job : Job) (p : Promotion) : Type 0 where
  -- the blocks of the job's arrays
  pub read : AgreeOn (blocks_listed job.arrays) f g
  -- the blocks that it has taken
  pub taken : AgreeOn (blocks_of (extents_taken p)) f g

-- these blocks are used in a space
pub record HasUsedBlocks (space : SpaceView) (job : Job) (p : Promotion) : Type 0 where
  -- the blocks of the job's arrays
  pub listed : AreUsed space (blocks_listed job.arrays)
  -- the blocks that it has taken, of each array that it writes
  pub written : AreAllUsed space (writers_of p)
