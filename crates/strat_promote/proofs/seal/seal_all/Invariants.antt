-- The writers below i are sealed.
use Rattle.std.proofs.Common.{◌≡◌, ◌≤◌, ◌+◌, ◌-◌, length}
use Rattle.strat_extent.specs.Blocks.{used_count}
use Rattle.strat_promote.proofs.ClosingLemmas.{AreSealing}
use Rattle.strat_promote.proofs.seal.seal_all.Given as goal

abbrev pub invariant-loop-i : goal.invariant-loop-i
invariant-loop-i g l =
    AreSealing (g.D.Disk.view l.initial.disk) (g.D.Disk.view l.disk) l.initial.space l.space l.i l.initial.writers.items l.writers.items
    × (g.D.Disk.faults l.disk ≡ g.D.Disk.faults l.initial.disk) × (g.D.Disk.reads l.disk ≡ g.D.Disk.reads l.initial.disk)
    × (used_count l.space + (length l.initial.writers.items - l.i) ≤ used_count l.initial.space + length l.initial.writers.items)
