use Rattle.strat_merge.specs.MergerFields.{IsUnspent}
use Rattle.strat_merge_tests.proofs.faults.trouble_of.Given as goal

abbrev pub invariant-loop : goal.invariant-loop
invariant-loop g l = IsUnspent g.R.Run.view l.merger
