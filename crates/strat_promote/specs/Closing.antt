-- The arrays of a promotion once all entries were pushed.
use Rattle.std.specs.Prelude.{◌≡◌, ◌<◌, ℕ, List, [], length, flat_map, Option, None, Some}
use Rattle.std.specs.List.{slice_get}
use Rattle.strat_array.specs.Progress.{ArrayProgress}
use Rattle.strat_array.specs.Pushed.{IsPushed, AreMaximal}
use Rattle.strat_array.specs.Taking.{AreUsed}
use Rattle.strat_array.specs.Within.{AreWithin}
use Rattle.strat_base.specs.Entries.{Entry}
use Rattle.strat_base.specs.declared.descriptors.ArrayDesc.{ArrayDesc}
use Rattle.strat_base.specs.declared.descriptors.Extent.{Extent}
use Rattle.strat_base.specs.declared.descriptors.LevelDesc.{LevelDesc}
use Rattle.def_crash.specs.Image.{Image}
use Rattle.def_crash.specs.Moments.{DiskView, Exposes}
use Rattle.strat_extent.specs.Blocks.{SpaceView}
use Rattle.def_bytes.specs.Arrays.{blocks_of, entries_on}
use Rattle.def_split.specs.Plan.{Plan, horizon_of, part_at, members}

-- the blocks of all writers
abbrev pub all_extents : List ArrayProgress → List Extent
all_extents writers = flat_map (λ w. w.extents) writers

-- the blocks of each writer are used
abbrev pub AreAllUsed : SpaceView → List ArrayProgress → Type 0
AreAllUsed s writers = (q : ℕ) (w : ArrayProgress) → slice_get writers q ≡ Some w
    → AreUsed s (blocks_of w.extents)

-- all that was pushed is in blocks now, of each writer, and its filter is as it was
pub record AreSealed (disk now : DiskView) (old new : List ArrayProgress) : Type 0 where
  pub each : (q : ℕ) (w : ArrayProgress) → slice_get old q ≡ Some w → (x : ArrayProgress)
      × (slice_get new q ≡ Some x) × (x.id ≡ w.id) × (x.count ≡ w.count)
      × ((f g : Image) (es : List Entry) → Exposes disk f → Exposes now g → IsPushed f w es
      → entries_on g (blocks_of x.extents) ≡ Some es)
      × (x.filter ≡ w.filter)

-- a descriptor has the number, the count and the blocks of a writer, and the rest of a part
pub record IsDescriptor (plan : Plan) (q : ℕ) (w : ArrayProgress) (a : ArrayDesc) : Type 0 where
  pub id : a.id ≡ w.id
  pub entries : a.entries ≡ w.count
  pub extents : a.extents ≡ w.extents
  pub leads : a.leads ≡ (part_at plan q).leads
  pub least : a.least ≡ (part_at plan q).least
  pub versions : a.versions ≡ members plan q
  pub maximal : AreMaximal a.extents
  pub within : AreWithin a.extents

-- a level has the descriptors of these writers, for the parts of a plan
pub record IsLevelOf (plan : Plan) (number : ℕ) (writers : List ArrayProgress)
    (level : LevelDesc) : Type 0 where
  pub numbered : level.number ≡ number
  pub horizon : level.horizon ≡ horizon_of plan
  pub some : 0 < length writers
  pub len : length level.arrays ≡ length writers
  pub each : (q : ℕ) (w : ArrayProgress) → slice_get writers q ≡ Some w
      → (a : ArrayDesc) × (slice_get level.arrays q ≡ Some a) × IsDescriptor plan q w a

-- what is made of writers: a level, or nothing where there are none
abbrev pub IsDescribed : Plan → ℕ → List ArrayProgress → Option LevelDesc → Type 0
IsDescribed plan number writers None = writers ≡ []
IsDescribed plan number writers (Some level) = IsLevelOf plan number writers level
