-- The marked runs of a level's arrays are opened.
use Rattle.std.specs.Prelude.{◌≡◌, ◌≤◌, ℕ, ◌+◌, ◌*◌, nat_lt, Bool, false, List, [], ◌∷◌, ◌++◌, length, map, filter, Some, unwrap_or, IsTrue}
use Rattle.std.specs.List.{list_all, Contains}
use Rattle.std.specs.Option.{option_map_or}
use Rattle.strat_base.specs.Entries.{Entry, is_ascending}
use Rattle.strat_base.specs.declared.descriptors.ArrayDesc.{ArrayDesc}
use Rattle.def_crash.specs.Image.{Image}
use Rattle.def_crash.specs.Moments.{DiskView, Exposes}
use Rattle.def_bytes.specs.Arrays.{blocks_of, entries_on}
use Rattle.def_check.specs.Marked.{marked, marked_runs}
use Rattle.strat_merge.specs.Gathered.{are_under}
use Rattle.strat_merge.specs.Runs.{RunView, ReadsFront, lefts, blocks_left, IsBadFor}
use Rattle.strat_promote.specs.Job.{blocks_listed, IsBadInput}
use Rattle.strat_promote.specs.Leads.{misfit_in}

-- the blocks of an array hold entries in an image, and these ascend
abbrev pub is_in_order : Image → ArrayDesc → Bool
is_in_order f a = option_map_or is_ascending (entries_on f (blocks_of a.extents)) false

-- the entries of an array in an image, of versions below a number
abbrev pub kept_on : Image → ℕ → ArrayDesc → List Entry
kept_on f n a =
    filter (λ e. nat_lt e.version n) (unwrap_or (entries_on f (blocks_of a.extents)) [])

-- the run of an array of a disk was put behind others, marked with a place
pub record OpensRun (n : ℕ) (disk : DiskView) (place : ℕ) (a : ArrayDesc) (old new : List RunView)
    (before now : ℕ) : Type 0 where
  pub run : RunView
  pub behind : new ≡ old ++ run ∷ []
  pub left : (f : Image) → Exposes disk f → (c : List Entry)
      → entries_on f (blocks_of a.extents) ≡ Some c → IsTrue (is_ascending c)
      → run.left f ≡ map (marked place) (filter (λ e. nat_lt e.version n) c)
  pub under : run.versions ≡ 16384 * n
  pub blames : (f : Image) (b : ℕ) → Exposes disk f → run.misfit f ≡ Some b
      → misfit_in f a ≡ Some b
  pub read : ReadsFront (blocks_of a.extents) run.blocks before now

-- the runs of some arrays of a disk are opened, each marked with its place; each block of the arrays was read once at most,
-- or is still to be read
pub record AreLevelRuns (n : ℕ) (disk : DiskView) (arrays : List ArrayDesc) (runs : List RunView)
    (before now : ℕ) : Type 0 where
  pub left : (f : Image) → Exposes disk f → IsTrue (list_all (is_in_order f) arrays)
      → lefts f runs ≡ marked_runs 0 (map (kept_on f n) arrays)
  pub len : length runs ≡ length arrays
  pub under : IsTrue (are_under (16384 * n) runs)
  pub blames : (f : Image) (b : ℕ) → Exposes disk f → IsBadFor runs f b → IsBadInput f arrays b
  pub within : (b : ℕ) → Contains (blocks_left runs) b → Contains (blocks_listed arrays) b
  pub later : before ≤ now
  pub most : now + length (blocks_left runs) ≤ before + length (blocks_listed arrays)
