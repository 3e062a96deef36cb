-- Why a promotion gives up, and as what it is told.
use Rattle.std.specs.Prelude.{◌≡◌, ◌≤◌, ℕ}
use Rattle.strat_base.specs.declared.failures.Trouble.{Trouble}
use Rattle.strat_base.specs.declared.failures.Trouble.TheVariants as trouble
use Rattle.def_crash.specs.Faults.{Rose}
use Rattle.strat_promote.specs.declared.obstacle.Obstacle.{Obstacle}
use Rattle.strat_promote.specs.declared.obstacle.Obstacle.TheVariants.{NoMemory, Device, Damaged, Unfit}

-- a trouble, where a bound may be reached besides
abbrev pub as_obstacle : Trouble → Obstacle
as_obstacle trouble.NoMemory = NoMemory
as_obstacle trouble.Device = Device
as_obstacle (trouble.Damaged block) = Damaged block

-- an obstacle as it is told at the top: a bound that was reached as want of memory
abbrev pub told_as : Obstacle → Trouble
told_as NoMemory = trouble.NoMemory
told_as Device = trouble.Device
told_as (Damaged block) = trouble.Damaged block
told_as Unfit = trouble.NoMemory

-- why entries were not written: for the device, and a fault was counted, or for another reason, and none was; never for a
-- damaged block
abbrev pub MeetsObstacle : Obstacle → ℕ → ℕ → Type 0
MeetsObstacle NoMemory before now = now ≡ before
MeetsObstacle Device before now = (before ≤ now) × Rose before now
MeetsObstacle (Damaged block) before now = ⊥
MeetsObstacle Unfit before now = now ≡ before
