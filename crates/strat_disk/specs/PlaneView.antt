-- The lists of a disk in memory as a medium.
use Rattle.std.specs.Prelude.{◌≡◌, ◌≤◌, ℕ, length, vec_capacity, Result, OnOk}
use Rattle.strat_disk.specs.Medium.{Medium, shown}
use Rattle.strat_disk.specs.declared.plane.Plane.{Plane}

-- what the three lists show
abbrev pub plane_of : Plane → Medium
plane_of p = shown p.bytes.items p.durable.items p.pending.items

-- there is memory for so many bytes
pub record HasRoom (p : Plane) (len : ℕ) : Type 0 where
  pub bytes : len ≤ vec_capacity p.bytes
  pub durable : len ≤ vec_capacity p.durable
  pub pending : len ≤ vec_capacity p.pending

-- the same bytes, and at Ok memory for so many
pub record SameWith {T E : Type 0} (old new : Plane) (len : ℕ) (result : Result T E) : Type 0 where
  pub same : plane_of new ≡ plane_of old
  pub length_same : length new.bytes.items ≡ length old.bytes.items
  pub room : OnOk result (HasRoom new len)
