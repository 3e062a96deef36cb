use Rattle.std.proofs.Common.{◌≡◌, ◌≤◌, ◌+◌, ◌*◌, ◌-◌, length}
use Rattle.strat_extent.specs.Blocks.{used_count}
use Rattle.strat_split.specs.Dealing.{IsDealing}
use Rattle.strat_promote.specs.Filled.{SameFilling}
use Rattle.strat_promote.proofs.FilledLemmas.{HaveDealt}
use Rattle.strat_promote.proofs.filling.deal_out.Given as goal

abbrev pub invariant-loop-part : goal.invariant-loop-part
invariant-loop-part g l = record {
  same : SameFilling l.fn.filling l.filling;
  dealing : IsDealing l.tree.parents l.fn.filling.plan l.items l.filling.dealer;
  dealt : HaveDealt (g.D.Disk.view l.fn.disk) (g.D.Disk.view l.disk) l.fn.space l.space l.tree.parents l.fn.filling.plan l.arena.pairs l.items l.fn.filling.writers.items l.filling.writers.items l.filling.dealer.from;
  faults : g.D.Disk.faults l.disk ≡ g.D.Disk.faults l.fn.disk;
  reads : g.D.Disk.reads l.disk ≡ g.D.Disk.reads l.fn.disk;
  few : used_count l.space + 16384 * (length l.fn.filling.plan.parts - l.filling.dealer.from) ≤ used_count l.fn.space + 16384 * length l.fn.filling.plan.parts;
}

abbrev pub decreases-loop-part : goal.decreases-loop-part
decreases-loop-part g l = length l.filling.plan.parts - l.filling.dealer.from
