-- Blocks of arrays that are kept in memory, and what a call that looks at an array's blocks does to them.
use Rattle.std.specs.Prelude.{◌≡◌, ℕ, ◌==◌, ◌&&◌, ◌⊎◌, Bool, if◌then◌else◌, List, Contains, slice_get, Option, Some, None}
use Rattle.std.specs.Map.{lookup}
use Rattle.std.specs.Option.{option_or}
use Rattle.strat_base.specs.Entries.{Entry}
use Rattle.def_crash.specs.Image.{Image}
use Rattle.def_crash.specs.Moments.{DiskView, OnlyReads}
use Rattle.strat_array.specs.Blocks.{lists_on}
use Rattle.def_bytes.specs.Arrays.{block_on}

-- a block that is kept: the number of its array and its index there, and its entries
abbrev pub Kept : Type 0
Kept = (ℕ × ℕ) × List Entry

-- what a cache shows: its blocks, the most recently used first, and how many there may be
pub record Blocks : Type 0 where
  pub entries : List Kept
  pub cap : ℕ

-- a block is the one of an array at an index
abbrev pub is_keyed : ℕ → ℕ → ℕ × ℕ → Bool
is_keyed array index k = (array == k.0) && (index == k.1)

-- the entries of a block that a scratch holds, where it is the one of an array at an index
abbrev pub held_block : Option Kept → ℕ → ℕ → Option (List Entry)
held_block None array index = None
held_block (Some kept) array index = if is_keyed array index kept.0 then Some kept.1 else None

-- the entries of a block, wherever it is kept
abbrev pub kept_block : Blocks → Option Kept → ℕ → ℕ → Option (List Entry)
kept_block c s array index =
    option_or (held_block s array index) (lookup (is_keyed array index) c.entries)

-- of all blocks that a cache keeps now, none is new
pub record AddsNone (old new : Blocks) : Type 0 where
  pub cap : new.cap ≡ old.cap
  pub each : (k : ℕ × ℕ) (x : List Entry) → Contains new.entries (k, x)
      → Contains old.entries (k, x)

-- a block that a cache keeps now was kept before, or is this one
pub record AddsOnly (old new : Blocks) (key : ℕ × ℕ) (entries : List Entry) : Type 0 where
  pub cap : new.cap ≡ old.cap
  pub each : (k : ℕ × ℕ) (x : List Entry) → Contains new.entries (k, x)
      → Contains old.entries (k, x) ⊎ ((k ≡ key) × (x ≡ entries))

-- these are the entries of an array's block as an exposed content has it
pub record IsBlockRead (content : Option Image) (array : ℕ) (blocks : List ℕ) (k : ℕ × ℕ)
    (entries : List Entry) : Type 0 where
  pub mine : k.0 ≡ array
  pub block : ℕ
  pub place : slice_get blocks k.1 ≡ Some block
  pub read : (f : Image) → content ≡ Some f → block_on f block ≡ Some entries

-- these are the entries of an array's block as a cache keeps it
pub record IsBlockCached (c : Blocks) (array : ℕ) (blocks : List ℕ) (k : ℕ × ℕ)
    (entries : List Entry) : Type 0 where
  pub mine : k.0 ≡ array
  pub block : ℕ
  pub place : slice_get blocks k.1 ≡ Some block
  pub cached : Contains c.entries (k, entries)

-- a scratch holds what it held, or the block of an array at an index as a cache keeps it
pub record TakesOver (c : Blocks) (array index : ℕ) (old new : Option Kept) : Type 0 where
  pub each : (k : ℕ × ℕ) (x : List Entry) → new ≡ Some (k, x)
      → (old ≡ Some (k, x)) ⊎ ((k ≡ (array, index)) × Contains c.entries (k, x))

-- a call that looked at blocks of an array left the disk as it was, and added to what is kept only such
-- blocks as they stand on the disk; a scratch may have taken one from the cache
pub record Looks (old new : DiskView) (array : ℕ) (blocks : List ℕ) (c d : Blocks)
    (s t : Option Kept) : Type 0 where
  pub disk : OnlyReads old new
  pub cap : d.cap ≡ c.cap
  pub cached : (k : ℕ × ℕ) (x : List Entry) → Contains d.entries (k, x)
      → Contains c.entries (k, x) ⊎ IsBlockRead old.content array blocks k x
  pub held : (k : ℕ × ℕ) (x : List Entry) → t ≡ Some (k, x)
      → (s ≡ Some (k, x)) ⊎ IsBlockCached c array blocks k x
      ⊎ IsBlockRead old.content array blocks k x

-- an array's blocks hold these entries on a disk that exposes its content, and each of them that is
-- kept is kept so
pub record ArrayStands (content : Option Image) (array : ℕ) (blocks : List ℕ) (c : Blocks)
    (s : Option Kept) (lists : List (List Entry)) : Type 0 where
  pub image : Image
  pub exposed : content ≡ Some image
  pub listed : lists_on image blocks ≡ Some lists
  pub cached : (index : ℕ) (x y : List Entry) → Contains c.entries ((array, index), x)
      → slice_get lists index ≡ Some y → x ≡ y
  pub held : (index : ℕ) (x : List Entry) → s ≡ Some ((array, index), x)
      → slice_get lists index ≡ Some x
