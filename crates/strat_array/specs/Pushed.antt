-- The entries of an array that is being written, its filter, and the extents of one.
use Rattle.std.specs.Prelude.{◌≡◌, ◌≢◌, ℕ, ◌+◌, ◌<◌, ◌≤◌, List, [], ◌∷◌, ◌++◌, length, nat_le, min, Bool, if◌then◌else◌, Option, Some, None, IfSome, Result, Ok, Err, ⊤}
use Rattle.strat_base.specs.declared.limits.TheConstants.{BLOCK}
use Rattle.strat_base.specs.declared.descriptors.Extent.{Extent}
use Rattle.strat_base.specs.declared.failures.Trouble.{Trouble}
use Rattle.strat_base.specs.declared.failures.Trouble.TheVariants.{NoMemory, Device, Damaged}
use Rattle.strat_base.specs.Entries.{Entry}
use Rattle.def_crash.specs.Faults.{Rose}
use Rattle.def_crash.specs.Image.{Image}
use Rattle.def_bytes.specs.Block.{block_front}
use Rattle.def_bytes.specs.Arrays.{blocks_of, entries_on}
use Rattle.strat_filter.specs.Bits.{fnv, with_hash}
use Rattle.strat_filter.specs.Keys.{IsFilterOf}
use Rattle.strat_array.specs.Progress.{ArrayProgress}

-- an image has some of these entries in the blocks of extents, and the others are in no block yet
pub record IsWritten (f : Image) (extents : List Extent) (pending entries : List Entry)
    : Type 0 where
  pub written : List Entry
  pub read : entries_on f (blocks_of extents) ≡ Some written
  pub all : entries ≡ written ++ pending

-- these entries were pushed, and a filter that is kept is of exactly their keys
pub record IsPushed (f : Image) (w : ArrayProgress) (entries : List Entry) : Type 0 where
  pub stands : IsWritten f w.extents w.pending entries
  pub count : w.count ≡ length entries
  pub filter : IfSome w.filter (λ bits. IsFilterOf bits entries)

-- a filter after one more key, if one is kept
abbrev pub with_key : Option (List Bool) → List ℕ → Option (List Bool)
with_key None key = None
with_key (Some bits) key = Some (with_hash bits (fnv key))

-- an entry has room in a block behind these
abbrev pub has_room_behind : List Entry → Entry → Bool
has_room_behind pending e = nat_le (length (block_front (pending ++ e ∷ []))) BLOCK

-- what is in no block after one more entry: a new block begins exactly where the entry has no room
abbrev pub with_entry : List Entry → Entry → List Entry
with_entry pending e = if has_room_behind pending e then pending ++ e ∷ [] else e ∷ []

-- these entries are the last of others
pub record IsEndOf (end all : List Entry) : Type 0 where
  pub front : List Entry
  pub split : all ≡ front ++ end

-- how many blocks there are once the entries that are in no block have one, too
abbrev pub blocks_needed : List Extent → List Entry → ℕ
blocks_needed extents pending = length (blocks_of extents) + min 1 (length pending)

-- how an entry that is pushed adds to the blocks: one is written exactly where the entry has no room; after an error there
-- are no more than before but for what was to be written
abbrev pub AddsBlocks : List Extent → List Entry → Entry → List Extent → List Entry
    → Result ⊤ Trouble → Type 0
AddsBlocks old pending e new now (Ok _) =
    (length (blocks_of new) ≡ length (blocks_of old) + (if has_room_behind pending e then 0 else 1))
    × (blocks_needed new now ≤ blocks_needed old pending + 1)
AddsBlocks old pending e new now (Err _) = blocks_needed new now ≤ blocks_needed old pending

-- no extent is empty, and none begins where the one before it ends
abbrev pub AreMaximal : List Extent → Type 0
AreMaximal [] = ⊤
AreMaximal (x ∷ []) = 0 < x.len
AreMaximal (x ∷ y ∷ xs) = (0 < x.len) × (x.start + x.len ≢ y.start) × AreMaximal (y ∷ xs)

-- why a writer gave up: for want of memory, and no fault was counted, or for the device, and one was
abbrev pub HasReason : Trouble → ℕ → ℕ → Type 0
HasReason NoMemory before now = now ≡ before
HasReason Device before now = (before ≤ now) × Rose before now
HasReason (Damaged b) before now = ⊥
