use Rattle.std.proofs.Common.{◌≡◌, ◌++◌, take, drop}
use Rattle.strat_model.specs.Step.{advanced}
use Rattle.strat_model.proofs.plain_rows.advance.Given as goal

abbrev pub invariant-loop-cursor : goal.invariant-loop-cursor
invariant-loop-cursor l =
    l.cursors ≡ advanced (take l.cursor-index l.initial.cursors) l.number l.limit ++ drop l.cursor-index l.initial.cursors
