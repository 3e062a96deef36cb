-- How a pass is begun over the runs of a job.
use Rattle.std.specs.Prelude.{◌≡◌, ◌≤◌, ℕ, ◌+◌, ◌^◌, List, length, Result, OnErr, IsErrOf, Contains}
use Rattle.strat_base.specs.Entries.{Entry}
use Rattle.strat_base.specs.declared.descriptors.ArrayDesc.{ArrayDesc}
use Rattle.def_crash.specs.Faults.{HasCause, ReadsAtMost}
use Rattle.def_crash.specs.Image.{Image}
use Rattle.def_crash.specs.Moments.{DiskView, OnlyReads}
use Rattle.strat_merge.specs.Runs.{RunView, blocks_left}
use Rattle.strat_promote.specs.Job.{Job, blocks_listed, input_count}
use Rattle.strat_promote.specs.Opening.{IsBlamed}

-- the runs of arrays were opened, or a block of one is bad; each block was read once at most
pub record OpensInputs {T E : Type 0} (device : E) (damaged : ℕ → E) (disk after : DiskView)
    (arrays : List ArrayDesc) (faults failed reads read : ℕ) (result : Result T E)
    : Type 0 where
  pub same : OnlyReads disk after
  pub cause : HasCause device faults failed result
  pub blamed : (b : ℕ) → IsErrOf result (damaged b) → IsBlamed disk arrays b
  pub err : OnErr result (ReadsAtMost (length (blocks_listed arrays)) reads read)

-- runs have still to read blocks of arrays alone, and no more than were not read
pub record LeavesBlocks (arrays : List ArrayDesc) (runs : List RunView) (reads read : ℕ)
    : Type 0 where
  pub later : reads ≤ read
  pub most : read + length (blocks_left runs) ≤ reads + length (blocks_listed arrays)
  pub among : (b : ℕ) → Contains (blocks_left runs) b → Contains (blocks_listed arrays) b

-- a job is over these entries of level 0 and these arrays, which have as few leads as a store's
pub record IsJobOver (f : Image) (zero : List Entry) (arrays : List ArrayDesc) (job : Job)
    : Type 0 where
  pub zero_is : job.zero ≡ zero
  pub arrays_are : job.arrays ≡ arrays
  pub few : input_count f job ≤ 2 ^ 24
