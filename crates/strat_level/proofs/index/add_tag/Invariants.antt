use Rattle.std.proofs.Common.{take}
use Rattle.strat_level.specs.Index.{IsTagAdded}
use Rattle.strat_level.proofs.index.add_tag.Given as goal

abbrev pub invariant-loop-version : goal.invariant-loop-version
invariant-loop-version l = IsTagAdded l.initial.index.items l.index.items l.number (take l.version-index l.tag)
