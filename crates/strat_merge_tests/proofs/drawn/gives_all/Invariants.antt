use Rattle.strat_merge.specs.MergerFields.{IsUnspent}
use Rattle.strat_merge_tests.proofs.drawn.gives_all.Given as goal

abbrev pub invariant-loop-key : goal.invariant-loop-key
invariant-loop-key g l = IsUnspent g.R.Run.view l.merger
