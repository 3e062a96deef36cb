-- What a merge sees of a run: entries in order, of which the first is at hand and the others may lie on a disk.
use Rattle.std.specs.Prelude.{◌≡◌, ◌≤◌, ℕ, ◌+◌, List, ◌++◌, length, map, drop, flat_map, slice_get, option_and_then, Option, Some, None, IsTrue}
use Rattle.std.specs.List.{Contains}
use Rattle.std.specs.Ordering.{is_lt}
use Rattle.strat_base.specs.Order.{entry_cmp}
use Rattle.strat_base.specs.Entries.{Entry, is_ascending}
use Rattle.def_crash.specs.Blocks.{AgreeOn}
use Rattle.def_crash.specs.Image.{Image}
use Rattle.def_crash.specs.Moments.{DiskView, Exposes}

-- the blocks that a run has still to read, a number above all its versions, the first entry that it has left, and on a
-- disk of some content all that it has left, and the first of its blocks that is bad for it
pub record RunView : Type 0 where
  pub blocks : List ℕ
  pub versions : ℕ
  pub first : Option Entry
  pub left : Image → List Entry
  pub misfit : Image → Option ℕ

-- what holds of every run: its entries ascend, the first of them is the same on every content, and the others depend
-- only on the blocks that are still to be read, as does which of these is bad
pub record IsEntryRun (run : RunView) : Type 0 where
  pub ascending : (c : Image) → IsTrue (is_ascending (run.left c))
  pub begins : (c : Image) → run.first ≡ slice_get (run.left c) 0
  pub stays : (c d : Image) → AgreeOn run.blocks c d → run.left c ≡ run.left d
  pub fits : (c d : Image) → AgreeOn run.blocks c d → run.misfit c ≡ run.misfit d

-- a run has one entry less, the first: on the content that the disk exposes the others are left; on any disk what is
-- first now stands after what was first before
pub record Advances (disk : DiskView) (old new : RunView) : Type 0 where
  pub rest : (c : Image) → Exposes disk c → new.left c ≡ drop 1 (old.left c)
  pub later : (e f : Entry) → old.first ≡ Some e → new.first ≡ Some f
      → IsTrue (is_lt (entry_cmp e.key e.version f.key f.version))
  pub bound : new.versions ≡ old.versions

-- some of the blocks at the front were read, each at most once
pub record ReadsFront (old new : List ℕ) (before now : ℕ) : Type 0 where
  pub read : List ℕ
  pub split : old ≡ read ++ new
  pub later : before ≤ now
  pub most : now ≤ before + length read

-- the first entry that a run of some has left
abbrev pub head_at : List RunView → ℕ → Option Entry
head_at runs i = option_and_then (λ run. run.first) (slice_get runs i)

-- no run has an entry left
abbrev pub NoneLeft : List RunView → Type 0
NoneLeft runs = (i : ℕ) → head_at runs i ≡ None

-- what each run has left on a content
abbrev pub lefts : Image → List RunView → List (List Entry)
lefts c runs = map (λ run. run.left c) runs

-- the blocks that runs have still to read
abbrev pub blocks_left : List RunView → List ℕ
blocks_left runs = flat_map (λ run. run.blocks) runs

-- no block is read twice, and none but these
pub record ReadsLeft (old new : List RunView) (before now : ℕ) : Type 0 where
  pub fewer : (b : ℕ) → Contains (blocks_left new) b → Contains (blocks_left old) b
  pub later : before ≤ now
  pub most : now + length (blocks_left new) ≤ before + length (blocks_left old)

-- a block is bad for one of some runs
pub record IsBadFor (runs : List RunView) (c : Image) (b : ℕ) : Type 0 where
  pub at : ℕ
  pub run : RunView
  pub there : slice_get runs at ≡ Some run
  pub says : run.misfit c ≡ Some b
