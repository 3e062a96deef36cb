-- What the passes over arrays rest on.
use Rattle.std.specs.Prelude.{◌≤◌, ℕ, ◌+◌, nat_lt, nat_le, ◌&&◌, Bool, List, length, sum_by, IsTrue}
use Rattle.std.specs.List.{list_all, Contains}
use Rattle.strat_base.specs.declared.descriptors.ArrayDesc.{ArrayDesc}
use Rattle.strat_base.specs.declared.descriptors.Extent.{Extent}
use Rattle.strat_base.specs.declared.descriptors.LevelDesc.{LevelDesc}

-- an extent ends at a block that has a number
abbrev pub ends_within : Extent → Bool
ends_within x = nat_le (x.start + x.len) 4294967295

-- an array has extents that end within, and versions below a horizon
abbrev pub is_fit_array : ℕ → ArrayDesc → Bool
is_fit_array horizon a =
    list_all ends_within a.extents && list_all (λ v. nat_lt v horizon) a.versions

-- a level has a number, a horizon within so many versions, few arrays, and these are fit
abbrev pub is_fit_level : ℕ → LevelDesc → Bool
is_fit_level versions level =
    nat_le level.number 22 && nat_le level.horizon versions && nat_le (length level.arrays) 16384
    && list_all (is_fit_array level.horizon) level.arrays

-- how many blocks the arrays of levels have
abbrev pub blocks_of_levels : List LevelDesc → ℕ
blocks_of_levels levels =
    sum_by (λ level. sum_by (λ a. sum_by (λ x. x.len) a.extents) level.arrays) levels

-- the passes may go over the arrays of these levels, in a store of so many versions
abbrev pub are_fit : ℕ → List LevelDesc → Bool
are_fit versions levels =
    list_all (is_fit_level versions) levels && nat_le (blocks_of_levels levels) 33554432

-- a level has a number, a horizon within so many versions, few arrays, and these have versions below the horizon
pub record IsFitLevel (versions : ℕ) (level : LevelDesc) : Type 0 where
  pub number : level.number ≤ 22
  pub old : level.horizon ≤ versions
  pub few : length level.arrays ≤ 16384
  pub low : IsTrue (list_all
      (λ a. list_all (λ v. nat_lt v level.horizon) a.versions) level.arrays)
  pub each : (a : ArrayDesc) → Contains level.arrays a
      → IsTrue (list_all (λ v. nat_lt v versions) a.versions)
