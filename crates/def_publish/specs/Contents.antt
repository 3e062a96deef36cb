-- What a store has on its disk, as values: where each part lies is in it, the bytes are not.
use Rattle.std.specs.Prelude.{ℕ, List, ◌++◌, take, drop, flat_map}
use Rattle.strat_base.specs.Change.{Change}
use Rattle.def_state.specs.Level.{Level}
use Rattle.def_promote.specs.Sealed.{sealed_at}
use Rattle.def_state.specs.State.{State}
use Rattle.def_bytes.specs.Arrays.{blocks_of}
use Rattle.def_bytes.specs.Chained.{Chained}
use Rattle.def_bytes.specs.SuperBlock.{Super}
use Rattle.def_recovery.specs.Head.{Head, descriptors}
use Rattle.def_recovery.specs.Opened.{parents_in}

-- the contents of a store: its newest superblock and the slot of that, its manifest and the blocks of
-- its chain, the changes of its journal, and its levels
pub record Contents : Type 0 where
  pub slot : ℕ
  pub sb : Super
  pub chained : Chained
  pub journal : List Change
  pub levels : List Level

-- the head of these contents
abbrev pub contents_head : Contents → Head
contents_head x = record { sb = x.sb; manifest = x.chained.manifest; journal = x.journal }

-- the state of these contents
abbrev pub contents_state : Contents → State
contents_state x = record {
  mem = x.sb.mem;
  changes_max = x.sb.changes_max;
  versions_max = x.sb.versions_max;
  parents = parents_in x.chained.manifest;
  marks = x.chained.manifest.marks;
  changes = x.chained.manifest.changes;
  updates = x.chained.manifest.updates;
  written = x.chained.manifest.written;
  compacted = x.chained.manifest.compacted;
  next_array = x.chained.manifest.next_array;
  levels = x.levels;
  journal = x.journal;
}

-- the blocks that contents name: those of the manifest's chain, and those of its arrays
abbrev pub named_blocks : Contents → List ℕ
named_blocks x =
    x.chained.blocks ++ flat_map (λ a. blocks_of a.extents) (descriptors x.chained.manifest)

-- the same contents with another journal
abbrev pub with_journal : Contents → List Change → Contents
with_journal x journal = record x { journal = journal }

-- the changes that fill the active region or part of it, and those behind them in the other region
abbrev pub sealed_part : Contents → List Change
sealed_part x = take x.sb.mem x.journal

abbrev pub later_part : Contents → List Change
later_part x = drop x.sb.mem x.journal

-- the state of contents when their journal held what is in the active region
abbrev pub sealed_state : Contents → State
sealed_state x = sealed_at (contents_state x) (sealed_part x)
