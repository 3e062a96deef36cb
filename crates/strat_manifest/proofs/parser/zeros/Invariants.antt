use Rattle.std.proofs.Common.{◌≡◌, ◌-◌, ◌++◌, replicate}
use Rattle.strat_manifest.proofs.parser.zeros.Given as goal

abbrev pub invariant-loop : goal.invariant-loop
invariant-loop l = l.numbers ++ replicate (l.n - l.counter) 0 ≡ replicate l.n 0
