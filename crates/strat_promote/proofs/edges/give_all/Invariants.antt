use Rattle.std.proofs.Common.{take}
use Rattle.strat_extent.specs.Change.{IsMarked}
use Rattle.strat_promote.specs.Closing.{all_extents}
use Rattle.strat_promote.proofs.edges.give_all.Given as goal

abbrev pub invariant-loop-writer : goal.invariant-loop-writer
invariant-loop-writer l = IsMarked l.space (all_extents (take l.writer-index l.writers)) l.fn.space
