use Rattle.strat_merge.specs.MergerFields.{IsUnspent}
use Rattle.strat_merge_tests.proofs.rows.has_left_until_the_end.Given as goal

abbrev pub invariant-loop-left : goal.invariant-loop-left
invariant-loop-left g l = IsUnspent g.R.Run.view l.merger
