-- Disks with one block that is bad, and the same disks without the flaw.
use Rattle.std.specs.Prelude.{[], ◌∷◌}
use Rattle.strat_base.specs.Change.{Put}
use Rattle.strat_base.specs.Entries.{Entry}
use Rattle.strat_base.specs.EntryBytes.{entry_bytes}
use Rattle.strat_base.specs.Samples.{says}
use Rattle.def_crash.specs.Image.{Image, patch}
use Rattle.def_bytes.specs.Manifest.{Manifest}
use Rattle.strat_base.specs.declared.descriptors.ArrayDesc.{ArrayDesc}
use Rattle.def_bytes.specs.SuperBlock.{Super}
use Rattle.def_state.specs.State.{State}
use Rattle.def_state.specs.Worked.{array_of, first_level, chain}
use Rattle.def_recovery.specs.Disks.{chain_super, chain_manifest, published_by, published}
use Rattle.def_recovery.specs.Head.{Head}
use Rattle.def_pins.specs.Disks.{with_second_slot}
use Rattle.def_pins.specs.Formats.{from_block, odd_level}

-- a disk whose newest slot, the second, has a region that there is not
abbrev pub refused_slot : Image
refused_slot = patch (with_second_slot 2) 4123 (2 ∷ [])

-- what recovery finds after the chain was published
abbrev pub chain_head : Head
chain_head = record {
  sb = chain_super;
  manifest = chain_manifest;
  journal = Put 3 (98 ∷ []) (49 ∷ []) ∷ [];
}

-- the chain's array
abbrev pub chain_array : ArrayDesc
chain_array = record {
  id = 1;
  entries = 1;
  leads = 1;
  least = 1;
  extents = from_block 7 1 ∷ [];
  versions = 1 ∷ 2 ∷ 3 ∷ [];
}

-- the disk after that publication, but that the array's block counts no entry
abbrev pub uncounted : Image
uncounted = patch published 28673 (0 ∷ [])

-- an array of two entries in blocks 7 and 9
abbrev pub split_array : ArrayDesc
split_array = record chain_array {
  entries = 2;
  leads = 2;
  least = 2;
  extents = from_block 7 1 ∷ from_block 9 1 ∷ [];
}

-- the chain's manifest with this array, after one more update
abbrev pub split_manifest : Manifest
split_manifest = record chain_manifest {
  changes = 5;
  updates = 2;
  written = 2;
  levels = odd_level 1 4 (split_array ∷ []) ∷ [];
}

-- its superblock: the manifest is longer by an extent
abbrev pub split_super : Super
split_super = record chain_super { length = 118 }

-- what recovery finds then
abbrev pub split_head : Head
split_head = record chain_head { sb = split_super; manifest = split_manifest }

-- the disk after that publication, with a at version 1 in block 7 and this entry in block 9
abbrev pub split_with : Entry → Image
split_with e =
    patch (published_by split_super split_manifest) 36864 (0 ∷ 1 ∷ 0 ∷ 4 ∷ entry_bytes e)

-- the state that it is the disk of where block 9 has b
abbrev pub split_state : State
split_state = record chain {
  changes = 5;
  updates = 2;
  written = 2;
  levels = first_level 4
      (array_of 1 (1 ∷ 2 ∷ 3 ∷ []) (says 97 1 49 ∷ says 98 1 49 ∷ []) 2 2 2 ∷ []);
}
