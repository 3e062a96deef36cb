use Rattle.strat_merge.specs.MergerFields.{IsUnspent}
use Rattle.strat_merge_tests.proofs.rows.gives_the_newest.Given as goal

abbrev pub invariant-loop-wanted : goal.invariant-loop-wanted
invariant-loop-wanted g l = IsUnspent g.R.Run.view l.merger
