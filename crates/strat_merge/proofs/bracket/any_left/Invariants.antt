use Rattle.std.proofs.Common.{◌≡◌, ◌<◌, ℕ, None}
use Rattle.strat_merge.specs.Runs.{head_at}
use Rattle.strat_merge.proofs.bracket.any_left.Given as goal

abbrev pub invariant-loop-contender : goal.invariant-loop-contender
invariant-loop-contender g l = (i : ℕ) → i < l.contender → head_at (g.C.Contest.contenders l.contest) i ≡ None
