-- Manifests and disks that stand exactly at a bound of what recovery takes, or one past it.
use Rattle.std.specs.Prelude.{ℕ, List, [], ◌∷◌}
use Rattle.def_crash.specs.Image.{Image, patch}
use Rattle.def_bytes.specs.Chained.{Chained}
use Rattle.def_bytes.specs.Manifest.{Manifest, new_manifest}
use Rattle.strat_base.specs.declared.descriptors.ArrayDesc.{ArrayDesc}
use Rattle.def_bytes.specs.SuperBlock.{Super, spelled, fields}
use Rattle.def_recovery.specs.Disks.{formatted, new_super, chain_manifest}
use Rattle.def_pins.specs.Formats.{from_block, odd_level}

-- an array of a number, a version and a block, with three entries and two leads
abbrev pub array_at : ℕ → ℕ → ℕ → ArrayDesc
array_at id version block = record {
  id = id;
  entries = 3;
  leads = 2;
  least = 2;
  extents = from_block block 1 ∷ [];
  versions = version ∷ [];
}

-- the chain's manifest with these arrays in level 1, after four changes and four updates
abbrev pub having : List ArrayDesc → Manifest
having arrays = record chain_manifest {
  updates = 4;
  next_array = 9;
  levels = odd_level 1 4 arrays ∷ [];
}

-- a manifest in block 8
abbrev pub in_block_eight : Manifest → Chained
in_block_eight m = record { manifest = m; blocks = 8 ∷ [] }

-- an array of three entries with so many leads, in so many blocks from block 9 on
abbrev pub led_by : ℕ → ℕ → Manifest
led_by leads blocks = having (record (array_at 1 1 9) {
  leads = leads;
  extents = from_block 9 blocks ∷ [];
} ∷ [])

-- after two changes of which none was an update, with an array to come and entries written
abbrev pub after_two_changes : ℕ → ℕ → Manifest
after_two_changes next_array written = record chain_manifest {
  changes = 2;
  updates = 0;
  written = written;
  next_array = next_array;
  levels = [];
}

-- a formatted disk, with a superblock of this generation and region 1 in slot 1
abbrev pub with_second_slot : ℕ → Image
with_second_slot generation =
    patch formatted 4096
    (0xa7 ∷ spelled (fields (record new_super { generation = generation; region = 1 })))

-- an array in blocks 7 and 8, for version 0
abbrev pub in_two_blocks : ArrayDesc
in_two_blocks = record (array_at 1 0 7) { extents = from_block 7 2 ∷ [] }

-- a superblock of a format, with a manifest of 38 bytes in block 8 and this region active
abbrev pub of_format : ℕ → ℕ → Super
of_format format region = record new_super {
  format = format;
  generation = 2;
  manifest = 8;
  length = 38;
  region = region;
}

-- the same of format 1, with a manifest of 29 bytes
abbrev pub of_first_format : Super
of_first_format = record (of_format 1 1) { length = 29 }

-- the manifest of a store after one change, with so many entries compacted
abbrev pub after_a_change : ℕ → Manifest
after_a_change compacted = record new_manifest { changes = 1; compacted = compacted }
