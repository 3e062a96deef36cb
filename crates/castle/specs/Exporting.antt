-- What a run did that exports a version.
use Rattle.std.specs.Prelude.{◌≡◌, ◌≢◌, ◌⊎◌, ℕ, ◌==◌, Bool, true, false, Contains, Some, None, Ok, Err, IsTrue}
use Rattle.std.specs.List.{filter_map, list_any}
use Rattle.strat_base.specs.declared.descriptors.ArrayDesc.{ArrayDesc}
use Rattle.def_crash.specs.Image.{Image}
use Rattle.def_crash.specs.Moments.{DiskView, Exposes, Since}
use Rattle.def_bytes.specs.Arrays.{blocks_of, block_on}
use Rattle.strat_level.specs.Levels.{desc_for}
use Rattle.strat_model.specs.Kept.{IsMap}
use Rattle.strat_model.specs.Pairs.{Pairs}
use Rattle.strat_model.specs.Step.{pairs_at}
use Rattle.strat_model.specs.Table.{Table}
use Rattle.strat_model.specs.declared.ended.Ended.{Ended}
use Rattle.strat_model.specs.declared.ended.Ended.TheVariants as ended
use Rattle.strat_model.specs.Ended.{status_of}
use Rattle.def_recovery.specs.Head.{Head, head_versions, head_marks}
use Rattle.def_recovery.specs.Opening.{recover}
use Rattle.def_publish.specs.Several.{EachShows, ShowsOneOf}
use Rattle.def_publish.specs.Standing.{ShowsTable}
use Rattle.def_state.specs.Sound.{is_there}
use Rattle.strat_bulk.specs.Ending.{WritesPairs, AreTold}
use Rattle.strat_bulk.specs.Runs.{AreLawful}
use Rattle.strat_loop.specs.Session.{EndHasCause}
use Rattle.strat_loop.specs.World.{World, IsCalm}

-- the ends of a run that exports
abbrev pub EndsExporting : Ended → Type 0
EndsExporting ended.Done = Unit {0}
EndsExporting ended.NotAStore = Unit {0}
EndsExporting ended.Device = Unit {0}
EndsExporting ended.Sink = Unit {0}
EndsExporting ended.NoMemory = Unit {0}
EndsExporting (ended.Damaged block) = Unit {0}
EndsExporting ended.UnknownVersion = Unit {0}
EndsExporting _ = ⊥

-- recovery finds a store that has such a version, which was not dropped, or has none
abbrev pub FindsVersion : DiskView → ℕ → Bool → Type 0
FindsVersion v version known = (f : Image) → Exposes v f
    → (head : Head) × (recover f ≡ Ok (Some head))
    × (is_there (head_versions head) (head_marks head) version ≡ known)

-- a block of an array that a head has for a version is no block of entries in the content that a disk exposes
pub record IsBadAt (head : Head) (version : ℕ) (v : DiskView) (block : ℕ) : Type 0 where
  pub array : ArrayDesc
  pub named : Contains
      (filter_map (λ level. desc_for (head_versions head) level version) head.manifest.levels) array
  pub one : IsTrue (list_any (λ other. other == block) (blocks_of array.extents))
  pub bad : (f : Image) → Exposes v f → block_on f block ≡ None

-- a run that exports a version ended so
pub record ExportsVersion (version : ℕ) (how : Ended) (before now : World) : Type 0 where
  pub ends : EndsExporting how
  -- it wrote the frames of these pairs
  pub told : Pairs
  pub writes : WritesPairs how before.held now.held told
  pub lawful : AreLawful told
  -- which are the version's map in the table that the content shows, or as far as it came its first ones
  pub map : (f : Image) (t : Table) → Exposes before.disk f → ShowsTable f t
      → AreTold how told (pairs_at t version)
  pub ordered : how ≡ ended.Done → (f : Image) (t : Table) → Exposes before.disk f
      → ShowsTable f t → IsMap (pairs_at t version)
  -- there is no such version, and there is one where it was done or the sink failed
  pub unknown : how ≡ ended.UnknownVersion → FindsVersion before.disk version false
  pub known : (how ≡ ended.Done) ⊎ (how ≡ ended.Sink) → FindsVersion before.disk version true
  pub none : how ≡ ended.NotAStore → (f : Image) → Exposes before.disk f → recover f ≡ Ok None
  -- recovery finds this block damaged, or it is one of the version's arrays and is bad
  pub damaged : (block : ℕ) → how ≡ ended.Damaged block → (f : Image) → Exposes before.disk f
      → (recover f ≡ Err block)
      ⊎ ((head : Head) × (recover f ≡ Ok (Some head)) × IsBadAt head version now.disk block)
  -- each crash meanwhile leaves one of the tables that one before might have left
  pub left : (f : Image) → Exposes before.disk f → EachShows before.disk → (c : Image)
      → Since now.disk before.disk.moment c → ShowsOneOf before.disk c
  pub cause : EndHasCause how before now
  -- the disk counted no fault that the end hides
  pub calm : how ≢ ended.Device → now.disk_faults ≡ before.disk_faults
  -- where nothing failed and the content shows a table it was done, or has no such version, or no memory
  pub complete : IsCalm before now → (f : Image) (t : Table) → Exposes before.disk f
      → ShowsTable f t → (status_of how ≡ 0) ⊎ (status_of how ≡ 12) ⊎ (status_of how ≡ 8)
