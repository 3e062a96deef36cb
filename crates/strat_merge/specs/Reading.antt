-- What a merge does to the disk, and which of its errors name a block.
use Rattle.std.specs.Prelude.{ℕ, List, map, Result, IsErrOf}
use Rattle.std.specs.List.{Contains}
use Rattle.def_crash.specs.Faults.{HasCause}
use Rattle.def_crash.specs.Image.{Image}
use Rattle.def_crash.specs.Moments.{DiskView, Exposes, OnlyReads}
use Rattle.strat_merge.specs.Runs.{RunView, blocks_left, ReadsLeft, IsBadFor}

-- runs were read: the device's error has its cause, another names a block that was still to be read and is bad for one
-- of them, and what is bad for those that are left was bad before
pub record ReadsRuns {R T E : Type 0} (view : R → RunView) (device : E) (damaged : ℕ → E)
    (disk after : DiskView) (faults failed reads read : ℕ) (old new : List R)
    (result : Result T E) : Type 0 where
  pub same : OnlyReads disk after
  pub cause : HasCause device faults failed result
  pub named : (b : ℕ) → IsErrOf result (damaged b) → Contains (blocks_left (map view old)) b
  pub blamed : (b : ℕ) → IsErrOf result (damaged b) → (c : Image) → Exposes disk c
      → IsBadFor (map view old) c b
  pub fewer : (c : Image) (b : ℕ) → Exposes disk c → IsBadFor (map view new) c b
      → IsBadFor (map view old) c b
  pub left : ReadsLeft (map view old) (map view new) reads read
