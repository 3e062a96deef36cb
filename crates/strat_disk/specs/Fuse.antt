-- What shows of a disk behind a fuse.
use Rattle.std.specs.Prelude.{◌≡◌, ◌<◌, ◌+◌, ℕ, ◌-◌, Result, IsErr}
use Rattle.def_crash.specs.Faults.{CountsFaults, one_more}
use Rattle.strat_disk.specs.declared.fuse.FuseDisk.{FuseDisk}

-- the disk behind it
abbrev pub inner_of : {D : Type 0} → FuseDisk D → D
inner_of f = f.inner

-- the calls that it still passes
abbrev pub left_of : {D : Type 0} → FuseDisk D → ℕ
left_of f = f.left

-- its own faults, at calls that reached nothing
abbrev pub own_faults : {D : Type 0} → FuseDisk D → ℕ
own_faults f = f.faults

-- the faults of the disk behind it and its own
abbrev pub all_faults : {D : Type 0} → (D → ℕ) → FuseDisk D → ℕ
all_faults faults f = faults f.inner + own_faults f

-- while calls are left each is passed and fails only behind the fuse; then each reaches nothing and is a fault more
pub record Fused {D T E : Type 0} (faults : D → ℕ) (old new : FuseDisk D)
    (result : Result T E) : Type 0 where
  pub left : left_of new ≡ left_of old - 1
  pub passed : 0 < left_of old
      → CountsFaults (faults (inner_of old)) (faults (inner_of new)) result
  pub own_same : 0 < left_of old → own_faults new ≡ own_faults old
  pub blown : left_of old ≡ 0 → IsErr result
  pub own_more : left_of old ≡ 0 → own_faults new ≡ one_more (own_faults old)
  pub unreached : left_of old ≡ 0 → inner_of new ≡ inner_of old
