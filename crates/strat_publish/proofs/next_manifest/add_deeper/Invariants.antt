use Rattle.std.proofs.Common.{◌≡◌, ◌++◌, take}
use Rattle.std.specs.Prelude.{filter, nat_lt}
use Rattle.strat_publish.proofs.next_manifest.add_deeper.Given as goal

abbrev pub invariant-loop-level : goal.invariant-loop-level
invariant-loop-level l = l.levels ≡ l.fn.levels ++ filter (λ level. nat_lt l.target level.number) (take l.level-index l.old)
