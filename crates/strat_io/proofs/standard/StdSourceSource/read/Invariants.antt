use Rattle.std.proofs.Common.{◌≡◌}
use Rattle.strat_io.proofs.standard.StdSourceSource.read.Given as goal

-- tries that were interrupted change no count
abbrev pub invariant-loop : goal.invariant-loop
invariant-loop g l = l.self-inside.faults ≡ l.initial.self-inside.faults
