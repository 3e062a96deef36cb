use Rattle.std.proofs.Common.{◌≡◌, length}
use Rattle.strat_promote.proofs.LeadRunLemmas.{Reaching}
use Rattle.strat_check.specs.Below.{versions_below}
use Rattle.strat_check.proofs.marked_run.reach_below.Given as goal

abbrev pub invariant-loop-at : goal.invariant-loop-at
invariant-loop-at g l =
    Reaching (g.D.Disk.view l.initial.disk) (g.D.Disk.view l.disk) (versions_below l.versions) l.initial.blocks l.fn.at l.blocks l.at (g.D.Disk.reads l.initial.disk) (g.D.Disk.reads l.disk)
    × (g.D.Disk.faults l.disk ≡ g.D.Disk.faults l.initial.disk)

abbrev pub decreases-loop-at : goal.decreases-loop-at
decreases-loop-at g l = length l.blocks.blocks
