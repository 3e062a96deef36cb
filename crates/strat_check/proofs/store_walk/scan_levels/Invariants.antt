use Rattle.std.proofs.Common.{◌≡◌, ◌*◌, length, take}
use Rattle.def_crash.specs.Faults.{ReadsAtMost}
use Rattle.def_crash.specs.Image.{Image}
use Rattle.def_crash.specs.Moments.{Exposes, OnlyReads}
use Rattle.def_publish.specs.Occupied.{arrays_in}
use Rattle.strat_promote.specs.Job.{blocks_listed}
use Rattle.strat_check.specs.StoreScans.{AreScannedLevels, HaveScans}
use Rattle.strat_check.proofs.store_walk.scan_levels.Given as goal

abbrev pub invariant-loop-i : goal.invariant-loop-i
invariant-loop-i g l =
    record {
      scanned : (f : Image) → Exposes (g.D.Disk.view l.initial.disk) f → AreScannedLevels f l.versions (take l.i l.levels) l.found;
      len : HaveScans (take l.i l.levels) l.found.levels.items;
      same : OnlyReads (g.D.Disk.view l.initial.disk) (g.D.Disk.view l.disk);
      faults : g.D.Disk.faults l.disk ≡ g.D.Disk.faults l.initial.disk;
      reads : ReadsAtMost (1 * length (blocks_listed (arrays_in (take l.i l.levels)))) (g.D.Disk.reads l.initial.disk) (g.D.Disk.reads l.disk);
    }
