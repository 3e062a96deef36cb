use Rattle.std.proofs.Common.{◌≡◌, [], replicate}
use Rattle.strat_promote.proofs.seal.no_tags.Given as goal

abbrev pub invariant-loop : goal.invariant-loop
invariant-loop l = l.tags.items ≡ replicate l.counter []
