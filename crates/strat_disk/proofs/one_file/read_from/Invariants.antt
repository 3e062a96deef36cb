use Rattle.std.proofs.Common.{◌≤◌, length}
use Rattle.strat_disk.proofs.one_file.read_from.Given as goal

abbrev pub invariant-loop : goal.invariant-loop
invariant-loop g l = l.done ≤ length l.into
