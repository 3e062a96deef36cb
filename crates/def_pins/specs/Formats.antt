-- Descriptors, superblocks and disks that stand exactly at a bound of the formats, or one past it.
use Rattle.std.specs.Prelude.{ℕ, true, false, ◌+◌, List, [], ◌∷◌, ◌++◌, length, map, replicate, suc, Some}
use Rattle.strat_base.specs.Entries.{Entry}
use Rattle.strat_base.specs.Change.{Change, Put}
use Rattle.strat_base.specs.Numbers.{be}
use Rattle.def_crash.specs.Image.{Image, patch}
use Rattle.def_bytes.specs.Manifest.{Manifest}
use Rattle.strat_base.specs.declared.descriptors.Extent.{Extent}
use Rattle.strat_base.specs.declared.descriptors.ArrayDesc.{ArrayDesc}
use Rattle.strat_base.specs.declared.descriptors.LevelDesc.{LevelDesc}
use Rattle.def_bytes.specs.Layout.{open_flag}
use Rattle.def_bytes.specs.Records.{records_bytes}
use Rattle.def_bytes.specs.SuperBlock.{Super}

-- four keys with values of 1,024 bytes, and of so many for the last key
abbrev pub four_entries : ℕ → List Entry
four_entries last =
    map (λ key. record { key = key ∷ []; version = 0; value = Some (replicate 1024 49) })
    (97 ∷ 98 ∷ 99 ∷ [])
    ++ record { key = 100 ∷ []; version = 0; value = Some (replicate last 49) } ∷ []

-- an extent of so many blocks from a block on
abbrev pub from_block : ℕ → ℕ → Extent
from_block start len = record { start = start; len = len }

-- array 1, with as many leads and live entries as entries
abbrev pub two_leads : ArrayDesc
two_leads = record {
  id = 1;
  entries = 2;
  leads = 2;
  least = 2;
  extents = from_block 7 1 ∷ from_block 9 1 ∷ [];
  versions = 0 ∷ 1 ∷ [];
}

-- the same array in these extents
abbrev pub in_extents : List Extent → ArrayDesc
in_extents extents = record two_leads { extents = extents }

-- the same array for these versions
abbrev pub for_versions : List ℕ → ArrayDesc
for_versions versions = record two_leads { versions = versions }

-- a level with this number and horizon, and these arrays
abbrev pub odd_level : ℕ → ℕ → List ArrayDesc → LevelDesc
odd_level number horizon arrays = record { number = number; horizon = horizon; arrays = arrays }

-- a manifest of two updates and three versions with these arrays in level 1
abbrev pub with_arrays : List ArrayDesc → Manifest
with_arrays arrays = record {
  changes = 2;
  updates = 2;
  written = 2;
  compacted = 0;
  next_array = 2;
  parents = 0 ∷ 1 ∷ [];
  marks = replicate 3 false;
  levels = odd_level 1 3 arrays ∷ [];
}

-- the same in two extents: block 7, and this block
abbrev pub second_extent_at : ℕ → Manifest
second_extent_at start = with_arrays (in_extents (from_block 7 1 ∷ from_block start 1 ∷ []) ∷ [])

-- the manifest of a store without levels that had so many changes, all of them updates
abbrev pub without_levels : ℕ → Manifest
without_levels changes = record {
  changes = changes;
  updates = changes;
  written = 0;
  compacted = 0;
  next_array = 1;
  parents = [];
  marks = false ∷ [];
  levels = [];
}

-- the same of a store whose versions from 1 on have these parents
abbrev pub with_parents : List ℕ → Manifest
with_parents parents = record (without_levels 0) {
  parents = parents;
  marks = replicate (suc (length parents)) false;
}

-- the same of a store with version 1, which was dropped, and so many entries compacted
abbrev pub after_a_drop : ℕ → Manifest
after_a_drop compacted = record (with_parents (0 ∷ [])) {
  compacted = compacted;
  marks = false ∷ true ∷ [];
}

-- its bytes in format 2, with these as marks: counts, the entries compacted and the next array, two versions, the parent of
-- version 1, and no level
abbrev pub after_a_drop_bytes : List ℕ → List ℕ
after_a_drop_bytes marks =
    0 ∷ 0 ∷ 0 ∷ 0 ∷ 0 ∷ 0 ∷ 0 ∷ 0 ∷ 0 ∷ 0 ∷ 0 ∷ 0 ∷ 0 ∷ 0 ∷ 0 ∷ 0
    ∷ 0 ∷ 0 ∷ 0 ∷ 0 ∷ 0 ∷ 0 ∷ 1 ∷ 2 ∷ 0 ∷ 0 ∷ 0 ∷ 0 ∷ 0 ∷ 0 ∷ 0 ∷ 1
    ∷ 0 ∷ 0 ∷ 0 ∷ 2 ∷ 0 ∷ 0 ∷ 0 ∷ 0 ∷ (marks ++ 0 ∷ [])

-- two arrays in level 1, the second in two extents
abbrev pub two_arrays : Manifest
two_arrays = record {
  changes = 4;
  updates = 3;
  written = 5;
  compacted = 0;
  next_array = 3;
  parents = 0 ∷ [];
  marks = replicate 2 false;
  levels = odd_level 1 2 (
      record {
        id = 1;
        entries = 1;
        leads = 1;
        least = 1;
        extents = from_block 7 1 ∷ [];
        versions = 0 ∷ [];
      }
      ∷ record {
        id = 2;
        entries = 3;
        leads = 2;
        least = 3;
        extents = from_block 8 2 ∷ from_block 11 1 ∷ [];
        versions = 1 ∷ [];
      } ∷ []) ∷ [];
}

-- their bytes: the counts, the next array and one clone of version 0; level 1; and for each array a
-- row with its numbers, and one with its extents and its version
abbrev pub two_arrays_bytes : List ℕ
two_arrays_bytes =
    0 ∷ 0 ∷ 0 ∷ 4 ∷ 0 ∷ 0 ∷ 0 ∷ 3 ∷ 0 ∷ 0 ∷ 0 ∷ 0 ∷ 0 ∷ 0 ∷ 0 ∷ 5
    ∷ 0 ∷ 0 ∷ 0 ∷ 0 ∷ 0 ∷ 0 ∷ 0 ∷ 3 ∷ 0 ∷ 0 ∷ 0 ∷ 2 ∷ 0 ∷ 0 ∷ 0 ∷ 0 ∷ 1
    ∷ 1 ∷ 0 ∷ 0 ∷ 0 ∷ 2 ∷ 0 ∷ 0 ∷ 0 ∷ 2
    ∷ 0 ∷ 0 ∷ 0 ∷ 0 ∷ 0 ∷ 0 ∷ 0 ∷ 1 ∷ 0 ∷ 0 ∷ 0 ∷ 1 ∷ 0 ∷ 0 ∷ 0 ∷ 1 ∷ 0 ∷ 0 ∷ 0 ∷ 1
    ∷ 0 ∷ 0 ∷ 0 ∷ 1 ∷ 0 ∷ 0 ∷ 0 ∷ 7 ∷ 0 ∷ 0 ∷ 0 ∷ 1 ∷ 0 ∷ 0 ∷ 0 ∷ 1 ∷ 0 ∷ 0 ∷ 0 ∷ 0
    ∷ 0 ∷ 0 ∷ 0 ∷ 0 ∷ 0 ∷ 0 ∷ 0 ∷ 2 ∷ 0 ∷ 0 ∷ 0 ∷ 3 ∷ 0 ∷ 0 ∷ 0 ∷ 2 ∷ 0 ∷ 0 ∷ 0 ∷ 3
    ∷ 0 ∷ 0 ∷ 0 ∷ 2 ∷ 0 ∷ 0 ∷ 0 ∷ 8 ∷ 0 ∷ 0 ∷ 0 ∷ 2 ∷ 0 ∷ 0 ∷ 0 ∷ 11 ∷ 0 ∷ 0 ∷ 0 ∷ 1
    ∷ 0 ∷ 0 ∷ 0 ∷ 1 ∷ 0 ∷ 0 ∷ 0 ∷ 1 ∷ []

-- the superblock with all fields as small as they may be
abbrev pub least_super : Super
least_super = record {
  format = 1;
  generation = 1;
  manifest = 6;
  length = 29;
  region = 0;
  mem = 4;
  changes_max = 1;
  versions_max = 1;
}

-- the superblock with all fields that have a greatest value at that
abbrev pub greatest_super : Super
greatest_super = record {
  format = 2;
  generation = 18446744073709551615;
  manifest = 4294967294;
  length = 4294967295;
  region = 1;
  mem = 4096;
  changes_max = 16777216;
  versions_max = 16384;
}

-- a superblock with this generation and region
abbrev pub of_generation : ℕ → ℕ → Super
of_generation generation region =
    record least_super { generation = generation; region = region }

-- a put at version 0 of a key of one byte
abbrev pub put_of : ℕ → Change
put_of key = Put 0 (key ∷ []) (49 ∷ [])

-- a disk with puts of these keys in region 0 and in region 1, for regions of four changes
abbrev pub with_puts : List ℕ → List ℕ → Image
with_puts firsts seconds =
    patch (patch (λ i. 0) 8192 (records_bytes (map put_of firsts)))
    16384 (records_bytes (map put_of seconds))

-- the same with an open gate behind those in region 1, and no change after it
abbrev pub with_gate : List ℕ → List ℕ → Image
with_gate firsts seconds =
    patch (with_puts firsts seconds)
    (16384 + length (records_bytes (map put_of seconds))) (open_flag ∷ [])

-- a disk with these bytes from an offset on, and zeros everywhere else
abbrev pub bytes_from : ℕ → List ℕ → Image
bytes_from at bytes = patch (λ i. 0) at bytes

-- a disk on which block 6 names one block as the next of its chain, and block 7 another
abbrev pub chain_links : ℕ → ℕ → Image
chain_links six seven = patch (bytes_from 24576 (be 4 six)) 28672 (be 4 seven)
