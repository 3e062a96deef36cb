use Rattle.std.proofs.Common.{◌≡◌, ◌≤◌, ◌+◌, ◌-◌, length, take}
use Rattle.strat_arena.specs.Items.{entries_of}
use Rattle.strat_extent.specs.Blocks.{used_count}
use Rattle.strat_promote.proofs.PushingLemmas.{ArePushed}
use Rattle.strat_promote.proofs.push.push_all.Given as goal

abbrev pub invariant-loop-item : goal.invariant-loop-item
invariant-loop-item g l =
    ArePushed (g.D.Disk.view l.fn.disk) (g.D.Disk.view l.disk) l.fn.space l.space l.fn.writer l.writer (take l.item-index (entries_of l.arena.pairs l.items))
    × (g.D.Disk.faults l.disk ≡ g.D.Disk.faults l.fn.disk) × (g.D.Disk.reads l.disk ≡ g.D.Disk.reads l.fn.disk)
    × (l.writer.count ≡ l.fn.writer.count + l.item-index)
    × (used_count l.space + (length l.items - l.item-index) ≤ used_count l.fn.space + length l.items)
