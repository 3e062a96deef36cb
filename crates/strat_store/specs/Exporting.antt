-- A version of a store that is read whole.
use Rattle.std.specs.Prelude.{ℕ}
use Rattle.def_crash.specs.Image.{Image}
use Rattle.strat_cursor.specs.Looking.{AreInOrder, HaveOwnIds, arrays_asked}
use Rattle.strat_cursor.specs.Ranges.{IsMapSeen}
use Rattle.strat_memory.specs.Held.{Held}
use Rattle.strat_memory.specs.Memory.{lists_in_memory}
use Rattle.strat_model.specs.Pairs.{Pairs}

-- in an image the arrays of a version have entries in order and numbers of their own, and look-ups through the memtable, a
-- sealed one and these find this map
pub record IsReadWhole (f : Image) (s : Held) (v : ℕ) (m : Pairs) : Type 0 where
  pub ordered : AreInOrder f (arrays_asked s.memory.parents s.levels v)
  pub ids : HaveOwnIds (arrays_asked s.memory.parents s.levels v)
  pub seen : IsMapSeen f s.memory.parents (lists_in_memory s.memory)
      (arrays_asked s.memory.parents s.levels v) v m
