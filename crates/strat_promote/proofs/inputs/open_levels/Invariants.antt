use Rattle.std.proofs.Common.{◌≡◌, map}
use Rattle.def_crash.specs.Moments.{OnlyReads}
use Rattle.strat_promote.specs.InputFields.{input_seen}
use Rattle.strat_promote.specs.Job.{arrays_to}
use Rattle.strat_promote.specs.Opening.{OpensRuns}
use Rattle.strat_promote.proofs.inputs.open_levels.Given as goal

abbrev pub invariant-loop-done : goal.invariant-loop-done
invariant-loop-done g l =
    OpensRuns l.horizon (g.D.Disk.view l.initial.disk) (arrays_to l.levels l.done) (map input_seen l.initial.runs.items) (map input_seen l.runs.items) (g.D.Disk.reads l.initial.disk) (g.D.Disk.reads l.disk)
    × OnlyReads (g.D.Disk.view l.initial.disk) (g.D.Disk.view l.disk) × (g.D.Disk.faults l.disk ≡ g.D.Disk.faults l.initial.disk)
