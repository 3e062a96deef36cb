-- Contents whose journal has one change, or one more than a region takes, and what takes their place.
use Rattle.std.specs.Prelude.{ℕ, false, [], ◌∷◌, ◌++◌}
use Rattle.strat_base.specs.Change.{Clone}
use Rattle.def_crash.specs.Image.{Image, patch}
use Rattle.def_bytes.specs.Manifest.{new_manifest}
use Rattle.def_bytes.specs.SuperBlock.{fields, spelled}
use Rattle.def_recovery.specs.Disks.{new_super}
use Rattle.def_publish.specs.Contents.{Contents}
use Rattle.def_publish.specs.Worked.{new_contents, chain_logged, chain_next, chain_again, published_disk}

-- with a fifth change, behind the full region
abbrev pub chain_grown : Contents
chain_grown = record chain_logged { journal = chain_logged.journal ++ Clone 3 ∷ [] }

-- and what takes its place: the fifth change is the journal
abbrev pub chain_behind : Contents
chain_behind = record chain_next { journal = Clone 3 ∷ [] }

-- a new store with one change, and what takes its place
abbrev pub new_logged : Contents
new_logged = record new_contents { journal = Clone 0 ∷ [] }

abbrev pub new_next : Contents
new_next = record new_contents {
  slot = 1;
  sb = record new_super { generation = 2; region = 1 };
  chained = record {
    manifest = record new_manifest { changes = 1; parents = 0 ∷ []; marks = false ∷ false ∷ [] };
    blocks = 7 ∷ [];
  };
}

-- contents in another format
abbrev pub at_format : ℕ → Contents → Contents
at_format format x = record x { sb = record (x.sb) { format = format } }

-- a disk whose old region was never shut, once another superblock makes that region the active one
abbrev pub twice_disk : Image
twice_disk = patch published_disk 0 (0xa7 ∷ spelled (fields chain_again.sb))
