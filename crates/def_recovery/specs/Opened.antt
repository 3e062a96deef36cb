-- The state that a manifest, the blocks of its arrays and a journal make.
use Rattle.std.specs.Prelude.{ℕ, List, ◌∷◌, map, Option, Some, None, option_map}
use Rattle.def_crash.specs.Image.{Image}
use Rattle.strat_base.specs.Tree.{Parents}
use Rattle.strat_base.specs.Change.{Change}
use Rattle.def_bytes.specs.Arrays.{all_some, blocks_of, entries_on}
use Rattle.def_state.specs.Level.{TaggedArray, Level}
use Rattle.def_state.specs.State.{State}
use Rattle.def_bytes.specs.Manifest.{Manifest}
use Rattle.strat_base.specs.declared.descriptors.ArrayDesc.{ArrayDesc}
use Rattle.strat_base.specs.declared.descriptors.LevelDesc.{LevelDesc}

-- the array that a descriptor and an image give
abbrev pub array_on : Image → ArrayDesc → Option TaggedArray
array_on c a =
    option_map
    (λ entries. record {
      id = a.id;
      tag = a.versions;
      content = entries;
      entries = a.entries;
      leads = a.leads;
      least = a.least;
    })
    (entries_on c (blocks_of a.extents))

-- the level that a descriptor and an image give
abbrev pub level_on : Image → LevelDesc → Option Level
level_on c level =
    option_map
    (λ arrays. record { number = level.number; horizon = level.horizon; arrays = arrays })
    (all_some (array_on c) level.arrays)

-- the parents of a manifest's versions
abbrev pub parents_in : Manifest → Parents
parents_in m = None ∷ map (λ p. Some p) m.parents

-- the state of these limits that a manifest, its arrays in an image and a journal make
abbrev pub state_on : Image → ℕ → ℕ → ℕ → Manifest → List Change → Option State
state_on c mem changes_max versions_max m journal =
    option_map (λ levels. record {
      mem = mem;
      changes_max = changes_max;
      versions_max = versions_max;
      parents = parents_in m;
      marks = m.marks;
      changes = m.changes;
      updates = m.updates;
      written = m.written;
      compacted = m.compacted;
      next_array = m.next_array;
      levels = levels;
      journal = journal;
    })
    (all_some (level_on c) m.levels)
