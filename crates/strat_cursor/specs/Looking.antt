-- What a look-up finds in the levels of a store, through a cache of blocks.
use Rattle.std.specs.Prelude.{◌≡◌, ◌<◌, ℕ, ◌+◌, ◌^◌, Bool, true, false, List, [], ◌∷◌, length, ◌⊎◌, Contains, flat_map, map, slice_get, Option, Some, None, unwrap_or, option_and_then, IsTrue}
use Rattle.std.specs.List.{filter_map}
use Rattle.strat_array.specs.Kept.{Blocks, IsBlockRead}
use Rattle.strat_array.specs.Within.{AreWithin, IsNoBlock}
use Rattle.strat_array.specs.declared.seen.Seen.{Seen}
use Rattle.strat_array.specs.declared.seen.Seen.TheVariants as seen
use Rattle.strat_base.specs.Entries.{Entry, is_ascending}
use Rattle.strat_base.specs.Tree.{Parents}
use Rattle.strat_base.specs.declared.descriptors.ArrayDesc.{ArrayDesc}
use Rattle.strat_base.specs.declared.descriptors.LevelDesc.{LevelDesc}
use Rattle.def_crash.specs.Faults.{ReadsAtMost}
use Rattle.def_crash.specs.Image.{Image}
use Rattle.def_crash.specs.Moments.{DiskView, OnlyReads}
use Rattle.def_bytes.specs.Arrays.{blocks_of, block_on, entries_on}
use Rattle.strat_level.specs.Levels.{desc_for, level_numbered}
use Rattle.def_state.specs.Level.{is_distinct}
use Rattle.def_state.specs.Reading.{live_of}

-- the levels that are there, the shallowest first
abbrev pub levels_there : List (Option LevelDesc) → List LevelDesc
levels_there levels = filter_map (λ level. level) levels

-- the arrays of these levels, the shallowest level first
abbrev pub arrays_there : List (Option LevelDesc) → List ArrayDesc
arrays_there levels = flat_map (λ level. level.arrays) (levels_there levels)

-- each of these arrays may be read
pub record MayBeFound (arrays : List ArrayDesc) : Type 0 where
  pub each : (a : ArrayDesc) → Contains arrays a → AreWithin a.extents

-- in an image each of these arrays has entries, in order
pub record AreInOrder (f : Image) (arrays : List ArrayDesc) : Type 0 where
  pub each : (a : ArrayDesc) → Contains arrays a
      → (entries : List Entry) × (entries_on f (blocks_of a.extents) ≡ Some entries)
      × IsTrue (is_ascending entries)

-- each block in a cache is of an array that is numbered below the next one
abbrev pub AreOfOldArrays : ℕ → Blocks → Type 0
AreOfOldArrays next_array c =
    (k : ℕ × ℕ) (x : List Entry) → Contains c.entries (k, x) → k.0 < next_array

-- each block in a cache that is of one of these arrays is as an image has it
abbrev pub AreCachedAs : Image → List ArrayDesc → Blocks → Type 0
AreCachedAs f arrays c = (a : ArrayDesc) (index block : ℕ) (x : List Entry) → Contains arrays a
    → Contains c.entries ((a.id, index), x) → slice_get (blocks_of a.extents) index ≡ Some block
    → block_on f block ≡ Some x

-- both of these
pub record AreCachedFrom (f : Image) (next_array : ℕ) (arrays : List ArrayDesc) (c : Blocks)
    : Type 0 where
  pub old : AreOfOldArrays next_array c
  pub same : AreCachedAs f arrays c

-- a call that looked at blocks of these arrays left the disk as it was, and added to the cache only
-- such blocks as they stand on the disk
pub record LooksThrough (old new : DiskView) (arrays : List ArrayDesc) (c d : Blocks) : Type 0 where
  pub disk : OnlyReads old new
  pub cap : d.cap ≡ c.cap
  pub cached : (k : ℕ × ℕ) (x : List Entry) → Contains d.entries (k, x)
      → Contains c.entries (k, x) ⊎ ((a : ArrayDesc) × Contains arrays a
      × IsBlockRead old.content a.id (blocks_of a.extents) k x)

-- a block of one of these arrays is no block of entries where a content is exposed
pub record NamesNoBlock (content : Option Image) (arrays : List ArrayDesc) (b : ℕ) : Type 0 where
  pub array : ArrayDesc
  pub one : Contains arrays array
  pub none : IsNoBlock content (blocks_of array.extents) b

-- no two of these arrays have one number
abbrev pub HaveOwnIds : List ArrayDesc → Type 0
HaveOwnIds arrays = IsTrue (is_distinct (map (λ a. a.id) arrays))

-- of each level the array that is asked at a version, if it has one, the shallowest level's first
abbrev pub arrays_asked : Parents → List (Option LevelDesc) → ℕ → List ArrayDesc
arrays_asked parents levels v = filter_map (λ level. desc_for parents level v) (levels_there levels)

-- the array that is asked at a version in the level of a number
abbrev pub asked_of_level : Parents → List (Option LevelDesc) → ℕ → ℕ → Option ArrayDesc
asked_of_level parents levels number v =
    option_and_then (λ level. desc_for parents level v) (level_numbered levels number)

-- what an array says of a key at a version, by its blocks in an image
abbrev pub array_says : Image → Parents → ℕ → List ℕ → Option ArrayDesc → Option Entry
array_says f parents v key None = None
array_says f parents v key (Some a) =
    live_of parents (unwrap_or (entries_on f (blocks_of a.extents)) []) v key

-- in an image an array has entries, in order, and its blocks in a cache are as the image has them
pub record MayBeAsked (f : Image) (c : Blocks) (a : ArrayDesc) : Type 0 where
  pub entries : List Entry
  pub read : entries_on f (blocks_of a.extents) ≡ Some entries
  pub ordered : IsTrue (is_ascending entries)
  pub cached : (index block : ℕ) (x : List Entry) → Contains c.entries ((a.id, index), x)
      → slice_get (blocks_of a.extents) index ≡ Some block → block_on f block ≡ Some x

-- an answer ends a look-up: it says something
abbrev pub decides : Seen → Bool
decides seen.None = false
decides seen.Gone = true
decides seen.Put = true

-- each of these arrays has fewer blocks than 2^n
abbrev pub HaveFewBlocks : ℕ → List ArrayDesc → Type 0
HaveFewBlocks n arrays =
    (a : ArrayDesc) → Contains arrays a → length (blocks_of a.extents) < 2 ^ n

-- how many blocks of arrays are read at most, each of fewer than 2^n: n + 4 by a search, and each once more
abbrev pub reads_of_arrays : ℕ → List ArrayDesc → ℕ
reads_of_arrays n [] = 0
reads_of_arrays n (a ∷ arrays) =
    n + 4 + length (blocks_of a.extents) + reads_of_arrays n arrays

-- of these arrays no more is read: in each a search, n + 4 of its blocks where it has fewer than 2^n, and each block once more
abbrev pub ReadsArrays : List ArrayDesc → ℕ → ℕ → Type 0
ReadsArrays arrays before now =
    (n : ℕ) → HaveFewBlocks n arrays → ReadsAtMost (reads_of_arrays n arrays) before now

-- how many blocks arrays have
abbrev pub blocks_of_arrays : List ArrayDesc → ℕ
blocks_of_arrays [] = 0
blocks_of_arrays (a ∷ arrays) = length (blocks_of a.extents) + blocks_of_arrays arrays
