use Rattle.std.proofs.Common.{◌≡◌, map, take}
use Rattle.def_crash.specs.Moments.{OnlyReads}
use Rattle.strat_check.specs.LevelRuns.{AreLevelRuns}
use Rattle.strat_check.specs.MarkedRuns.{marked_seen}
use Rattle.strat_check.proofs.level_runs.open_runs.Given as goal

abbrev pub invariant-loop-i : goal.invariant-loop-i
invariant-loop-i g l =
    AreLevelRuns l.versions (g.D.Disk.view l.initial.disk) (take l.i l.arrays) (map marked_seen l.runs.items) (g.D.Disk.reads l.initial.disk) (g.D.Disk.reads l.disk)
    × OnlyReads (g.D.Disk.view l.initial.disk) (g.D.Disk.view l.disk) × (g.D.Disk.faults l.disk ≡ g.D.Disk.faults l.initial.disk)
