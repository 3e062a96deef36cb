-- Disks for a check, written out.
use Rattle.std.specs.Prelude.{ℕ, List, [], ◌∷◌, Some, None, map}
use Rattle.strat_base.specs.Entries.{Entry}
use Rattle.strat_base.specs.Samples.{says}
use Rattle.strat_base.specs.Tree.{Parents}
use Rattle.strat_base.specs.declared.descriptors.ArrayDesc.{ArrayDesc}
use Rattle.strat_base.specs.declared.descriptors.LevelDesc.{LevelDesc}
use Rattle.def_crash.specs.Image.{Image, patch}
use Rattle.def_state.specs.Level.{Level}
use Rattle.def_recovery.specs.Disks.{chain_super, chain_manifest, published, published_by}

-- an array that says so
abbrev pub telling : ℕ → ArrayDesc → ArrayDesc
telling n a = record a { least = n }

-- a level whose arrays say that so few of their entries are live at some version
abbrev pub with_least : ℕ → LevelDesc → LevelDesc
with_least n level = record level { arrays = map (telling n) level.arrays }

-- a published disk whose array says that none is
abbrev pub lying : Image
lying =
    published_by chain_super
    (record chain_manifest { levels = map (with_least 0) chain_manifest.levels })

-- one whose array has a block of zeros
abbrev pub erased : Image
erased = patch published 28672 (0 ∷ 0 ∷ [])

-- version 0, its child and its grandchild
abbrev pub line : Parents
line = None ∷ Some 0 ∷ Some 1 ∷ []

-- a has a value at version 0 and another one at version 1, b one at version 2
abbrev pub line_leads : List Entry
line_leads = says 97 0 49 ∷ says 97 1 50 ∷ says 98 2 49 ∷ []

-- the array of version 2 with a copy of a that is too old
abbrev pub stale_copy : List Entry
stale_copy = says 97 0 49 ∷ says 98 2 49 ∷ []

-- and with the right one
abbrev pub fresh_copy : List Entry
fresh_copy = says 97 1 50 ∷ says 98 2 49 ∷ []

-- and with one of another value
abbrev pub false_copy : List Entry
false_copy = says 97 1 57 ∷ says 98 2 49 ∷ []

-- an array of two entries in blocks 7 and 9, in this order or the other one
abbrev pub of_two_blocks : (first second : ℕ) → ArrayDesc
of_two_blocks first second = record {
  id = 1;
  entries = 2;
  leads = 2;
  least = 2;
  extents = record { start = first; len = 1 } ∷ record { start = second; len = 1 } ∷ [];
  versions = 1 ∷ 2 ∷ 3 ∷ [];
}

-- a published disk with such an array, both of whose blocks are zeros
abbrev pub twice_erased : (first second : ℕ) → Image
twice_erased first second =
    patch (published_by (record chain_super { length = 118 })
    (record chain_manifest {
      changes = 5;
      updates = 2;
      written = 2;
      levels = record { number = 1; horizon = 4; arrays = of_two_blocks first second ∷ [] } ∷ [];
    })) 28672 (0 ∷ 0 ∷ [])

-- a level of two arrays, with a copy in the second one
abbrev pub two_told : Level
two_told = record {
  number = 1;
  horizon = 3;
  arrays =
      record {
        id = 1;
        tag = 0 ∷ 1 ∷ [];
        content = says 97 1 50 ∷ says 97 0 49 ∷ [];
        entries = 2;
        leads = 2;
        least = 1;
      } ∷ record {
        id = 2;
        tag = 2 ∷ [];
        content = says 97 1 50 ∷ says 98 2 49 ∷ [];
        entries = 2;
        leads = 1;
        least = 2;
      } ∷ [];
}
