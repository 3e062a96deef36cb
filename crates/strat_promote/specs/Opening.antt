-- The runs of a pass are opened.
use Rattle.std.specs.Prelude.{◌≡◌, ◌≤◌, ℕ, ◌+◌, List, [], ◌++◌, length, map, Option, Contains, IsTrue}
use Rattle.std.specs.Option.{option_map_or}
use Rattle.strat_base.specs.declared.descriptors.ArrayDesc.{ArrayDesc}
use Rattle.strat_base.specs.declared.descriptors.LevelDesc.{LevelDesc}
use Rattle.def_crash.specs.Image.{Image}
use Rattle.def_crash.specs.Moments.{DiskView, Exposes}
use Rattle.strat_merge.specs.Gathered.{are_under}
use Rattle.strat_merge.specs.Runs.{RunView, lefts, blocks_left, IsBadFor}
use Rattle.strat_promote.specs.Job.{blocks_listed, IsBadInput}
use Rattle.strat_promote.specs.Leads.{leads_in}

-- the arrays of a level, if there is one
abbrev pub arrays_if_any : Option LevelDesc → List ArrayDesc
arrays_if_any level = option_map_or (λ l. l.arrays) level []

-- runs over the leads of arrays of a disk were put behind others; their versions are below a number, and each block of
-- the arrays was read once at most, or is still to be read
pub record OpensRuns (n : ℕ) (disk : DiskView) (arrays : List ArrayDesc) (old new : List RunView)
    (before now : ℕ) : Type 0 where
  pub opened : List RunView
  pub behind : new ≡ old ++ opened
  pub left : (f : Image) → Exposes disk f → lefts f opened ≡ map (leads_in f) arrays
  pub under : IsTrue (are_under n opened)
  pub blames : (f : Image) (b : ℕ) → Exposes disk f → IsBadFor opened f b
      → IsBadInput f arrays b
  pub within : (b : ℕ) → Contains (blocks_left opened) b → Contains (blocks_listed arrays) b
  pub later : before ≤ now
  pub most : now + length (blocks_left opened) ≤ before + length (blocks_listed arrays)

-- a block of some arrays is bad for one of them where the disk exposes its content
abbrev pub IsBlamed : DiskView → List ArrayDesc → ℕ → Type 0
IsBlamed disk arrays b =
    Contains (blocks_listed arrays) b
    × ((f : Image) → Exposes disk f → IsBadInput f arrays b)
