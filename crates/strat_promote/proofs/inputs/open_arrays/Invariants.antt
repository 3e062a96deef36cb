use Rattle.std.proofs.Common.{◌≡◌, map, take}
use Rattle.def_crash.specs.Moments.{OnlyReads}
use Rattle.strat_promote.specs.InputFields.{input_seen}
use Rattle.strat_promote.specs.Opening.{OpensRuns}
use Rattle.strat_promote.proofs.inputs.open_arrays.Given as goal

abbrev pub invariant-loop-i : goal.invariant-loop-i
invariant-loop-i g l =
    OpensRuns l.horizon (g.D.Disk.view l.initial.disk) (take l.i l.arrays) (map input_seen l.initial.runs.items) (map input_seen l.runs.items) (g.D.Disk.reads l.initial.disk) (g.D.Disk.reads l.disk)
    × OnlyReads (g.D.Disk.view l.initial.disk) (g.D.Disk.view l.disk) × (g.D.Disk.faults l.disk ≡ g.D.Disk.faults l.initial.disk)
