use Rattle.std.proofs.Common.{◌≡◌, drop, nat_lt}
use Rattle.std.specs.List.{list_all}
use Rattle.strat_memory.proofs.belonging.are_below.Given as goal

abbrev pub invariant-loop-version : goal.invariant-loop-version
invariant-loop-version l = list_all (λ v. nat_lt v l.horizon) (drop l.version-index l.versions) ≡ list_all (λ v. nat_lt v l.horizon) l.versions
