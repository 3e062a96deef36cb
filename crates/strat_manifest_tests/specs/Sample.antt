-- A manifest for tests.
use Rattle.std.specs.Prelude.{true, false, [], ◌∷◌}
use Rattle.strat_base.specs.declared.descriptors.ArrayDesc.{ArrayDesc}
use Rattle.def_bytes.specs.Manifest.{Manifest}

-- an array of two extents for versions 0 and 2
abbrev pub first_array : ArrayDesc
first_array = record {
  id = 1;
  entries = 4;
  leads = 3;
  least = 2;
  extents = record { start = 7; len = 2 } ∷ record { start = 10; len = 1 } ∷ [];
  versions = 0 ∷ 2 ∷ [];
}

-- an array of one block for version 1
abbrev pub second_array : ArrayDesc
second_array = record {
  id = 2;
  entries = 3;
  leads = 2;
  least = 1;
  extents = record { start = 9; len = 1 } ∷ [];
  versions = 1 ∷ [];
}

-- three versions, one below the other, and a level of both arrays
abbrev pub sample_manifest : Manifest
sample_manifest = record {
  changes = 9;
  updates = 6;
  written = 7;
  compacted = 0;
  next_array = 3;
  parents = 0 ∷ 1 ∷ [];
  marks = false ∷ false ∷ false ∷ [];
  levels = record { number = 2; horizon = 3; arrays = first_array ∷ second_array ∷ [] } ∷ [];
}

-- the same with five entries compacted, and with versions 1 and 2 dropped
abbrev pub dropped_manifest : Manifest
dropped_manifest = record sample_manifest { compacted = 5; marks = false ∷ true ∷ true ∷ [] }
