-- What scans tell of the arrays of levels.
use Rattle.std.specs.Prelude.{◌≡◌, ◌≤◌, ◌*◌, ℕ, List, length, map, sum_by, Option, Some}
use Rattle.std.specs.Option.{option_or}
use Rattle.strat_base.specs.declared.descriptors.LevelDesc.{LevelDesc}
use Rattle.def_bytes.specs.Arrays.{all_some}
use Rattle.def_crash.specs.Image.{Image}
use Rattle.def_publish.specs.Occupied.{arrays_in}
use Rattle.strat_promote.specs.Job.{blocks_listed}
use Rattle.def_recovery.specs.Opened.{level_on}
use Rattle.def_state.specs.Level.{Level}
use Rattle.def_state.specs.Sound.{has_ascending_entries}
use Rattle.strat_check.specs.Places.{place_of, first_array_breach, first_in_arrays}
use Rattle.strat_check.specs.Walked.{scan_of}
use Rattle.strat_check.specs.declared.places.Broken.{Broken}
use Rattle.strat_check.specs.declared.scan.Scan.{Scan}
use Rattle.strat_check.specs.declared.store_walk.LevelScans.{LevelScans}
use Rattle.strat_check.specs.declared.store_walk.StoreScans.{StoreScans}

-- what scans tell of the arrays of a level
abbrev pub scans_of : ℕ → Level → List Scan
scans_of n level = map (scan_of n) level.arrays

-- how many entries the arrays of a level have
abbrev pub content_scanned : Level → ℕ
content_scanned level = sum_by (λ a. length a.content) level.arrays

-- the arrays of a level were scanned, behind others of which this was the first that does not ascend
pub record IsScannedLevel (f : Image) (n : ℕ) (desc : LevelDesc) (before : Option Broken)
    (r : LevelScans) : Type 0 where
  pub level : Level
  pub on_disk : level_on f desc ≡ Some level
  pub scanned : r.scans ≡ scans_of n level
  pub first : place_of r.unordered
      ≡ option_or (place_of before)
      (first_array_breach 109 level.number has_ascending_entries level.arrays)
  pub few : content_scanned level ≤ 454 * length (blocks_listed desc.arrays)

-- the arrays of some levels were
pub record AreScannedLevels (f : Image) (n : ℕ) (descs : List LevelDesc) (r : StoreScans)
    : Type 0 where
  pub levels : List Level
  pub on_disk : all_some (level_on f) descs ≡ Some levels
  pub scanned : r.levels.items ≡ map (scans_of n) levels
  pub first : place_of r.unordered ≡ first_in_arrays 109 (λ level. has_ascending_entries) levels
  pub few : sum_by content_scanned levels ≤ 454 * length (blocks_listed (arrays_in descs))

-- each level has a scan for each of its arrays
abbrev pub HaveScans : List LevelDesc → List (List Scan) → Type 0
HaveScans descs scans = map (λ xs. length xs) scans ≡ map (λ desc. length desc.arrays) descs
