-- The front of a region that was read.
use Rattle.std.specs.Prelude.{◌≡◌, ◌≢◌, ◌⊎◌, ◌≤◌, ◌<◌, ℕ, ◌+◌, ◌-◌, ◌%◌, ◌^◌, List, length, take, drop, slice_index, ◌∷◌, ◌++◌, true, map, Option, Some, None, ◌*◌, IsSome, Result, OnOk}
use Rattle.def_crash.specs.Image.{Image, window}
use Rattle.def_crash.specs.Moments.{DiskView, Exposes, OnlyReads}
use Rattle.std.specs.List.{list_all}
use Rattle.strat_base.specs.Change.{Change, change_bytes, change_in, is_lawful}
use Rattle.strat_journal.specs.declared.journal.Logged.{Logged}
use Rattle.def_bytes.specs.Records.{block_of, records_bytes}
use Rattle.def_bytes.specs.Layout.{open_flag}

-- where a region begins, how many bytes it has, and the first of them
pub record ReadSoFar : Type 0 where
  pub first : ℕ
  pub size : ℕ
  pub bytes : List ℕ

-- whole blocks of a region, for which there is room
pub record IsReadSoFar (first size : ℕ) (bytes : List ℕ) (room : ℕ) : Type 0 where
  pub within : length bytes ≤ size
  pub blocks : length bytes % 4096 ≡ 0
  pub whole : size % 4096 ≡ 0
  pub fits : size ≤ room
  pub place : first + size ≤ 2 ^ 44

-- the bytes are those of this image
abbrev pub MatchesImage : Image → ReadSoFar → Type 0
MatchesImage f part = part.bytes ≡ window f part.first (length part.bytes)

-- the bytes read do not end within what stands at an offset: the gate is closed, all of the region was
-- read, or a change follows the gate
abbrev pub IsConclusive : ReadSoFar → ℕ → Type 0
IsConclusive part at =
    (slice_index part.bytes at ≢ open_flag)
    ⊎ ((part.size ≤ length part.bytes) ⊎ IsSome (change_in (drop (at + 1) part.bytes)))

-- what stands at an offset of the region is clear from what was read: a closed gate, or whether a change
-- follows an open one
pub record IsClear (f : Image) (part : ReadSoFar) (at : ℕ) : Type 0 where
  pub read : at < length part.bytes
  pub gate : slice_index part.bytes at ≡ f (part.first + at)
  pub change : f (part.first + at) ≡ open_flag
      → change_in (drop (at + 1) part.bytes)
      ≡ change_in (window f (part.first + at + 1) (part.size - (at + 1)))

-- after a call that may have read on: the bytes read before and those of the blocks read since, each read
-- once
pub record ReadsOn {T E : Type 0} (old new : DiskView) (before now : ℕ) (part next : ReadSoFar)
    (result : Result T E) : Type 0 where
  pub first : next.first ≡ part.first
  pub size : next.size ≡ part.size
  pub longer : length part.bytes ≤ length next.bytes
  pub within : length next.bytes ≤ next.size
  pub looks : OnlyReads old new
  pub front : (k : ℕ) → k ≤ length part.bytes → take k next.bytes ≡ take k part.bytes
  pub shows : OnOk result ((f : Image) → Exposes old f → MatchesImage f part → MatchesImage f next)
  pub fewest : before ≤ now
  pub most : 4096 * now + length part.bytes ≤ 4096 * before + part.size
  pub each_once : OnOk result (4096 * now + length part.bytes ≤ 4096 * before + length next.bytes)

-- what stands at an offset of the bytes read: nothing after a closed gate, or a change and the offset after it
abbrev pub HoldsRecord : ReadSoFar → ℕ → Option (Change × ℕ) → Type 0
HoldsRecord part at None = slice_index part.bytes at ≢ open_flag
HoldsRecord part at (Some (change, next)) =
    (slice_index part.bytes at ≡ open_flag) × (change_in (drop (at + 1) part.bytes) ≡ Some change)
    × (next ≡ at + 1 + length (change_bytes change))

-- the bytes up to an offset are those up to another and then the record of this change
pub record EndsRecord (bytes : List ℕ) (at : ℕ) (change : Change) (next : ℕ) : Type 0 where
  pub text : take next bytes ≡ take at bytes ++ open_flag ∷ change_bytes change
  pub lawful : is_lawful change ≡ true

-- the bytes are the records of these changes
pub record AreRecords (bytes : List ℕ) (logged : List Logged) : Type 0 where
  pub text : bytes ≡ records_bytes (map (λ l. l.change) logged)
  pub lawful : list_all is_lawful (map (λ l. l.change) logged) ≡ true

-- a gate stands open at an offset, and no change after it
abbrev pub HoldsNoRecord : ReadSoFar → ℕ → Type 0
HoldsNoRecord part at =
    (slice_index part.bytes at ≡ open_flag) × (change_in (drop (at + 1) part.bytes) ≡ None)

-- what stands at an offset of a region in an image: nothing after a closed gate, or a record and the offset
-- after it
abbrev pub Stored : Image → ReadSoFar → ℕ → Option (Logged × ℕ) → Type 0
Stored f part at None = f (part.first + at) ≢ open_flag
Stored f part at (Some (l, next)) =
    (f (part.first + at) ≡ open_flag)
    × (change_in (window f (part.first + at + 1) (part.size - (at + 1))) ≡ Some l.change)
    × (l.block ≡ block_of (part.first + at)) × (next ≡ at + 1 + length (change_bytes l.change))

-- a gate stands open at an offset of a region in an image, in this block, and no change after it
abbrev pub StoredNone : Image → ReadSoFar → ℕ → ℕ → Type 0
StoredNone f part at block =
    (f (part.first + at) ≡ open_flag)
    × (change_in (window f (part.first + at + 1) (part.size - (at + 1))) ≡ None)
    × (block ≡ block_of (part.first + at))
