use Rattle.std.proofs.Common.{◌≡◌}
use Rattle.strat_journal.proofs.ReadLemmas.{SoFar}
use Rattle.strat_journal.proofs.read.read_region.Given as goal

abbrev pub invariant-loop-i : goal.invariant-loop-i
invariant-loop-i g l =
    SoFar (g.D.Disk.view l.initial.disk) (g.D.Disk.view l.disk) (g.D.Disk.reads l.initial.disk) (g.D.Disk.reads l.disk) l.mem l.region l.most l._i l.at l.reader l.logged.items
    × (g.D.Disk.faults l.disk ≡ g.D.Disk.faults l.initial.disk)
