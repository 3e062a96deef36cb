-- A disk just before a publication, written out, for a journal of four changes: a chain of clones with a
-- key at its second version.
use Rattle.std.specs.Prelude.{◌≡◌, ℕ, ◌+◌, nat_le, not, ◌==◌, ◌||◌, ◌&&◌, Bool, List, [], ◌∷◌, ◌++◌, map, Option, Some, option_map}
use Rattle.std.specs.List.{slice_get}
use Rattle.strat_base.specs.Change.{Put, Clone}
use Rattle.strat_base.specs.Numbers.{be}
use Rattle.strat_base.specs.declared.descriptors.ArrayDesc.{ArrayDesc}
use Rattle.strat_base.specs.declared.descriptors.Extent.{Extent}
use Rattle.strat_base.specs.declared.descriptors.LevelDesc.{LevelDesc}
use Rattle.def_crash.specs.Image.{Image, patch}
use Rattle.def_crash.specs.Moments.{DiskView}
use Rattle.strat_extent.specs.Blocks.{SpaceView}
use Rattle.def_bytes.specs.Manifest.{manifest_bytes, new_manifest}
use Rattle.def_bytes.specs.Records.{records_bytes}
use Rattle.def_bytes.specs.SuperBlock.{fields, spelled}
use Rattle.def_recovery.specs.Disks.{formatted, new_super, chain_manifest, chain_super, array_block, published_by}
use Rattle.def_state.specs.Worked.{chain}
use Rattle.def_publish.specs.Contents.{Contents}

-- a disk that exposes this image, which is all that a crash leaves
abbrev pub resting : Image → DiskView
resting f = record { content = Some f; moment = 0; images_at = λ m c. c ≡ f }

-- the contents of a new store
abbrev pub new_contents : Contents
new_contents = record {
  slot = 0;
  sb = new_super;
  chained = record { manifest = new_manifest; blocks = 6 ∷ [] };
  journal = [];
  levels = [];
}

-- with a chain of three clones in the journal, which is full, and a at the first clone
abbrev pub chain_logged : Contents
chain_logged = record new_contents {
  journal = Clone 0 ∷ Put 1 (97 ∷ []) (49 ∷ []) ∷ Clone 1 ∷ Clone 2 ∷ [];
}

-- the contents that are to take their place
abbrev pub chain_next : Contents
chain_next = record {
  slot = 1;
  sb = chain_super;
  chained = record { manifest = chain_manifest; blocks = 8 ∷ [] };
  journal = [];
  levels = chain.levels;
}

-- and the same once more, behind a publication that found no change
abbrev pub chain_again : Contents
chain_again = record chain_next {
  slot = 0;
  sb = record chain_super { generation = 3; region = 0 };
}

-- contents with a superblock of another generation
abbrev pub at_generation : ℕ → Contents → Contents
at_generation generation x = record x { sb = record (x.sb) { generation = generation } }

-- the level that was made of the journal
abbrev pub chain_made : Option LevelDesc
chain_made = slice_get chain_manifest.levels 0

-- a level with its arrays changed
abbrev pub with_each_array : (ArrayDesc → ArrayDesc) → LevelDesc → LevelDesc
with_each_array change level = record level { arrays = map change level.arrays }

-- the level that was made, with its arrays changed
abbrev pub made_with : (ArrayDesc → ArrayDesc) → Option LevelDesc
made_with change = option_map (with_each_array change) chain_made

-- an array with other versions, or in other extents
abbrev pub with_versions : List ℕ → ArrayDesc → ArrayDesc
with_versions versions a = record a { versions = versions }

abbrev pub with_extents : List Extent → ArrayDesc → ArrayDesc
with_extents extents a = record a { extents = extents }

-- a space in which the blocks behind the journal are used up to one, but for these
abbrev pub used_to : ℕ → List Extent → SpaceView
used_to end holes = record { first = 6; end = end; holes = holes }

-- n blocks from one on
abbrev pub blocks_from : ℕ → ℕ → Extent
blocks_from start len = record { start = start; len = len }

-- a disk with the one, and all of the other but the superblock: its array in block 7 and its manifest
-- in block 8
abbrev pub prepared_disk : Image
prepared_disk =
    patch (patch (patch formatted 8192 (records_bytes chain_logged.journal)) 28672 array_block)
    32768 (be 4 0 ++ manifest_bytes chain_super.format chain_manifest)

-- the same once the superblock of chain_next is laid
abbrev pub published_disk : Image
published_disk = patch prepared_disk 4096 (0xa7 ∷ spelled (fields chain_super))

-- blocks behind the journal are free, but for these two
abbrev pub free_but : ℕ → ℕ → ℕ → Bool
free_but first second b = nat_le 6 b && not ((b == first) || (b == second))

-- a descriptor that counts one entry more
abbrev pub with_one_more : ArrayDesc → ArrayDesc
with_one_more a = record a { entries = a.entries + 1 }

-- the published disk with descriptors that count one entry more than their arrays have
abbrev pub miscounted : Image
miscounted =
    published_by chain_super
    (record chain_manifest { levels = map (with_each_array with_one_more) chain_manifest.levels })
