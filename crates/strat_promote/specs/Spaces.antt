-- Blocks that the arrays of a promotion take, and entries that are pushed into one of them.
use Rattle.std.specs.Prelude.{◌≡◌, ◌≤◌, ◌<◌, ℕ, ◌+◌, ◌^◌, true, List, ◌++◌, length, Some, slice_set, Result, OnOk, Contains, ◌⊎◌}
use Rattle.std.specs.List.{slice_get}
use Rattle.strat_array.specs.Progress.{ArrayProgress}
use Rattle.strat_array.specs.Pushed.{IsEndOf, IsPushed}
use Rattle.strat_base.specs.Entries.{Entry}
use Rattle.strat_base.specs.declared.descriptors.Extent.{Extent}
use Rattle.def_crash.specs.Image.{Image}
use Rattle.def_crash.specs.Moments.{DiskView, Exposes}
use Rattle.strat_extent.specs.Blocks.{SpaceView, times_in, is_used, is_free, uses, used_count}
use Rattle.def_bytes.specs.Arrays.{blocks_of}

-- some blocks that were free became used, and stand behind the others of the extents now
pub record TakesMore (before after : SpaceView) (old new : List Extent) : Type 0 where
  pub used : (b : ℕ) → uses after b + times_in old b ≡ uses before b + times_in new b
  pub kept : (b : ℕ) → is_used before b ≡ true → is_used after b ≡ true
  pub free : (b : ℕ) → is_free after b ≡ true → is_free before b ≡ true
  pub mine : (b : ℕ) → Contains (blocks_of new) b
      → Contains (blocks_of old) b ⊎ (is_used after b ≡ true)
  pub first : after.first ≡ before.first
  pub count : used_count after + length (blocks_of old) ≡ used_count before + length (blocks_of new)

-- at most so many blocks are free
abbrev pub HasFewFree : SpaceView → ℕ → Type 0
HasFewFree s n = 4294967295 ≤ s.first + used_count s + n

-- more than 2^29 blocks are free, which is more than any promotion takes
abbrev pub HasAmpleRoom : SpaceView → Type 0
HasAmpleRoom s = s.first + used_count s + 2 ^ 29 < 4294967295

-- of some writers one had these entries pushed, and may have written some of them into blocks that were free
pub record PushesPart {T E : Type 0} (disk now : DiskView) (before after : SpaceView)
    (old new : List ArrayProgress) (part : ℕ) (entries : List Entry)
    (result : Result T E) : Type 0 where
  pub was : ArrayProgress
  pub is : ArrayProgress
  pub there : slice_get old part ≡ Some was
  pub others : new ≡ slice_set old part is
  pub id : is.id ≡ was.id
  pub takes : TakesMore before after was.extents is.extents
  pub end : OnOk result (IsEndOf is.pending (was.pending ++ entries))
  pub pushed : OnOk result ((f g : Image) (es : List Entry) → Exposes disk f → Exposes now g
      → IsPushed f was es → IsPushed g is (es ++ entries))
