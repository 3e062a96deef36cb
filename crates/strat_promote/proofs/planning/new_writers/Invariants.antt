use Rattle.std.proofs.Common.{◌≡◌, length}
use Rattle.strat_promote.specs.Planning.{AreNew}
use Rattle.strat_promote.proofs.planning.new_writers.Given as goal

abbrev pub invariant-loop-q : goal.invariant-loop-q
invariant-loop-q l = record {
  len : length l.writers.items ≡ l.q;
  new : AreNew l.first l.writers.items;
}
