-- Disks written out, for a journal of four changes, 100 changes and 10 versions in all.
use Rattle.std.specs.Prelude.{ℕ, true, false, List, [], ◌∷◌, ◌++◌, replicate}
use Rattle.def_crash.specs.Image.{Image, patch}
use Rattle.strat_base.specs.Marks.{Marks}
use Rattle.strat_base.specs.EntryBytes.{entry_bytes}
use Rattle.strat_base.specs.Numbers.{be}
use Rattle.strat_base.specs.Change.{Put, change_bytes}
use Rattle.def_bytes.specs.Manifest.{Manifest, manifest_bytes, new_manifest}
use Rattle.strat_base.specs.declared.descriptors.LevelDesc.{LevelDesc}
use Rattle.def_bytes.specs.SuperBlock.{Super, spelled, fields}
use Rattle.strat_base.specs.Samples.{says}
use Rattle.def_recovery.specs.Head.{Head}

-- the first 40 bytes of a superblock: open gate, magic, format 2, generation 1, a manifest of
-- 38 bytes in block 6, region 0, the limits
abbrev pub first_block : List ℕ
first_block =
    0xa7 ∷ 0x53 ∷ 0x54 ∷ 0x52 ∷ 0x41 ∷ 0x54 ∷ 0x42 ∷ 0x54 ∷ 0x31 ∷ 0x00 ∷ 0x02
    ∷ 0x00 ∷ 0x00 ∷ 0x00 ∷ 0x00 ∷ 0x00 ∷ 0x00 ∷ 0x00 ∷ 0x01
    ∷ 0x00 ∷ 0x00 ∷ 0x00 ∷ 0x06 ∷ 0x00 ∷ 0x00 ∷ 0x00 ∷ 0x26
    ∷ 0x00 ∷ 0x00 ∷ 0x00 ∷ 0x00 ∷ 0x04 ∷ 0x00 ∷ 0x00 ∷ 0x00 ∷ 0x64 ∷ 0x00 ∷ 0x00 ∷ 0x00 ∷ 0x0a ∷ []

-- the manifest's block, the only one: no change yet, nothing compacted, array 1 the next, one version,
-- which is living, and no level
abbrev pub manifest_block : List ℕ
manifest_block = replicate 35 0 ++ 0x01 ∷ 0x00 ∷ 0x00 ∷ 0x00 ∷ 0x01 ∷ 0x00 ∷ 0x00 ∷ []

-- the first 40 bytes of the same superblock in format 1, with a manifest of 29 bytes
abbrev pub old_first_block : List ℕ
old_first_block =
    0xa7 ∷ 0x53 ∷ 0x54 ∷ 0x52 ∷ 0x41 ∷ 0x54 ∷ 0x42 ∷ 0x54 ∷ 0x31 ∷ 0x00 ∷ 0x01
    ∷ 0x00 ∷ 0x00 ∷ 0x00 ∷ 0x00 ∷ 0x00 ∷ 0x00 ∷ 0x00 ∷ 0x01
    ∷ 0x00 ∷ 0x00 ∷ 0x00 ∷ 0x06 ∷ 0x00 ∷ 0x00 ∷ 0x00 ∷ 0x1d
    ∷ 0x00 ∷ 0x00 ∷ 0x00 ∷ 0x00 ∷ 0x04 ∷ 0x00 ∷ 0x00 ∷ 0x00 ∷ 0x64 ∷ 0x00 ∷ 0x00 ∷ 0x00 ∷ 0x0a ∷ []

-- the manifest's block in format 1: no change yet, array 1 the next, one version and no level
abbrev pub old_manifest_block : List ℕ
old_manifest_block = replicate 27 0 ++ 0x01 ∷ 0x00 ∷ 0x00 ∷ 0x00 ∷ 0x01 ∷ 0x00 ∷ []

-- a disk that was just formatted: these two blocks, and zeros everywhere else
abbrev pub formatted : Image
formatted = patch (patch (λ i. 0) 0 first_block) 24576 manifest_block

-- the same in format 1, as a build before format 2 left it
abbrev pub old_formatted : Image
old_formatted = patch (patch (λ i. 0) 0 old_first_block) 24576 old_manifest_block

-- the superblock of a new store
abbrev pub new_super : Super
new_super = record {
  format = 2;
  generation = 1;
  manifest = 6;
  length = 38;
  region = 0;
  mem = 4;
  changes_max = 100;
  versions_max = 10;
}

-- the same in format 1
abbrev pub old_super : Super
old_super = record new_super { format = 1; length = 29 }

-- the head of a new store
abbrev pub new_head : Head
new_head = record { sb = new_super; manifest = new_manifest; journal = [] }

-- the manifest after a chain of clones was published, with a key at the second version: array 1 is
-- in block 7
abbrev pub chain_manifest : Manifest
chain_manifest = record {
  changes = 4;
  updates = 1;
  written = 1;
  compacted = 0;
  next_array = 2;
  parents = 0 ∷ 1 ∷ 2 ∷ [];
  marks = replicate 4 false;
  levels = record {
    number = 1;
    horizon = 4;
    arrays = record {
      id = 1;
      entries = 1;
      leads = 1;
      least = 1;
      extents = record { start = 7; len = 1 } ∷ [];
      versions = 1 ∷ 2 ∷ 3 ∷ [];
    } ∷ [];
  } ∷ [];
}

-- its superblock: the second generation, with the manifest in block 8 and the other region active
abbrev pub chain_super : Super
chain_super = record {
  format = 2;
  generation = 2;
  manifest = 8;
  length = 110;
  region = 1;
  mem = 4;
  changes_max = 100;
  versions_max = 10;
}

-- the front of the array's block: one entry, its offset, and the entry
abbrev pub array_block : List ℕ
array_block = 0x00 ∷ 0x01 ∷ 0x00 ∷ 0x04 ∷ entry_bytes (says 97 1 49)

-- a disk with the array, a manifest in block 8, a superblock in slot 1, and a change in region 1
abbrev pub published_over : Image → Super → Manifest → Image
published_over c sb m =
    patch (patch (patch (patch c 28672 array_block) 32768
    (be 4 0 ++ manifest_bytes sb.format m)) 4096 (0xa7 ∷ spelled (fields sb)))
    16384 (0xa7 ∷ change_bytes (Put 3 (98 ∷ []) (49 ∷ [])))

-- the formatted disk with these
abbrev pub published_by : Super → Manifest → Image
published_by sb m = published_over formatted sb m

-- the disk after that publication
abbrev pub published : Image
published = published_by chain_super chain_manifest

-- the marks of four versions, of which the last was dropped
abbrev pub last_dropped : Marks
last_dropped = false ∷ false ∷ false ∷ true ∷ []

-- the chain's level with another horizon
abbrev pub with_horizon : ℕ → LevelDesc → LevelDesc
with_horizon horizon level = record level { horizon = horizon }

-- the formatted disk with region 0 full, by four changes, and an open gate at the head of region 1
abbrev pub doubly_open : Image
doubly_open =
    let change = 0xa7 ∷ change_bytes (Put 0 (97 ∷ []) (49 ∷ [])) in
    patch (patch formatted 8192 (change ++ change ++ change ++ change)) 16384 (0xa7 ∷ [])
