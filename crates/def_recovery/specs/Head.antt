-- What recovery finds of a store beside the blocks of its arrays.
use Rattle.std.specs.Prelude.{ℕ, ◌+◌, List, [], length, map, flat_map, filter_map, fold, sum_by}
use Rattle.strat_base.specs.Tree.{Parents}
use Rattle.strat_base.specs.Marks.{Marks}
use Rattle.strat_base.specs.Change.{Change}
use Rattle.def_state.specs.Level.{TaggedArray, Level}
use Rattle.def_bytes.specs.Manifest.{Manifest}
use Rattle.strat_base.specs.declared.descriptors.ArrayDesc.{ArrayDesc}
use Rattle.strat_base.specs.declared.descriptors.LevelDesc.{LevelDesc}
use Rattle.def_recovery.specs.Opened.{parents_in}
use Rattle.def_state.specs.State.{State, tree_after, marks_after, update_of}
use Rattle.def_bytes.specs.SuperBlock.{Super}

-- a head: the superblock, the manifest, and the changes of the journal
pub record Head : Type 0 where
  pub sb : Super
  pub manifest : Manifest
  pub journal : List Change

-- the versions of the manifest, and those that the journal made
abbrev pub head_versions : Head → Parents
head_versions h = fold tree_after (parents_in h.manifest) h.journal

-- which of them were dropped
abbrev pub head_marks : Head → Marks
head_marks h = fold marks_after h.manifest.marks h.journal

-- how many updates the journal has
abbrev pub journal_count : Head → ℕ
journal_count h = length (filter_map update_of h.journal)

-- how many changes were accepted
abbrev pub head_changes : Head → ℕ
head_changes h = h.manifest.changes + length h.journal

-- how many updates were accepted
abbrev pub head_updates : Head → ℕ
head_updates h = h.manifest.updates + journal_count h

-- the descriptors of all arrays, the shallowest level first
abbrev pub descriptors : Manifest → List ArrayDesc
descriptors m = flat_map (λ level. level.arrays) m.levels

-- how many entries are stored: those that all descriptors give, and the journal's updates
abbrev pub head_stored : Head → ℕ
head_stored h = sum_by (λ a. a.entries) (descriptors h.manifest) + journal_count h

-- what the descriptor of an array says of it, without where it lies
abbrev pub described : TaggedArray → ArrayDesc
described a = record {
  id = a.id;
  entries = a.entries;
  leads = a.leads;
  least = a.least;
  extents = [];
  versions = a.tag;
}

-- what the descriptor of a level says of it, without where its arrays lie
abbrev pub level_described : Level → LevelDesc
level_described level =
    record { number = level.number; horizon = level.horizon; arrays = map described level.arrays }

-- the numbers of a tree's parents, from version 1 on
abbrev pub parent_numbers : Parents → List ℕ
parent_numbers parents = filter_map (λ parent. parent) parents

-- the head of a state at a generation, without where on the disk its parts lie and in what format
abbrev pub head_of : ℕ → State → Head
head_of generation s = record {
  sb = record {
    format = 0;
    generation = generation;
    manifest = 0;
    length = 0;
    region = 0;
    mem = s.mem;
    changes_max = s.changes_max;
    versions_max = s.versions_max;
  };
  manifest = record {
    changes = s.changes;
    updates = s.updates;
    written = s.written;
    compacted = s.compacted;
    next_array = s.next_array;
    parents = parent_numbers s.parents;
    marks = s.marks;
    levels = map level_described s.levels;
  };
  journal = s.journal;
}
