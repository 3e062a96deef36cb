use Rattle.std.proofs.Common.{◌≡◌, ◌-◌, suc, ◌++◌, replicate}
use Rattle.strat_manifest.proofs.marks.living_marks.Given as goal

abbrev pub invariant-loop : goal.invariant-loop
invariant-loop l = l.marks ++ replicate (l.more - l.counter) 0 ≡ replicate (suc l.more) 0
