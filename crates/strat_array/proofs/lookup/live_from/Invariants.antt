use Rattle.std.proofs.Common.{◌≡◌, ◌≤◌, length, ◌+◌, ◌-◌, ◌*◌, ◌^◌}
use Rattle.def_bytes.specs.Arrays.{blocks_of}
use Rattle.strat_array.specs.Steps.{blocks_ahead}
use Rattle.strat_array.proofs.FindLemmas.{Walking}
use Rattle.strat_array.proofs.lookup.live_from.Given as goal

abbrev pub invariant-loop-at : goal.invariant-loop-at
invariant-loop-at g l =
    Walking (g.D.Disk.view l.initial.disk) (g.D.Disk.view l.disk) l.desc.id (blocks_of l.desc.extents) l.initial.cache l.cache l.initial.scratch l.scratch
    l.tree.parents l.key l.v l.fn.place l.place
    × (l.out ≡ l.initial.out) × (g.D.Disk.faults l.disk ≡ g.D.Disk.faults l.initial.disk)
    × (g.D.Disk.reads l.initial.disk ≤ g.D.Disk.reads l.disk)
    × (g.D.Disk.reads l.disk + blocks_ahead l.scratch l.desc.id (length (blocks_of l.desc.extents)) l.place
    ≤ g.D.Disk.reads l.initial.disk + blocks_ahead l.initial.scratch l.desc.id (length (blocks_of l.desc.extents)) l.fn.place)

abbrev pub decreases-loop-at : goal.decreases-loop-at
decreases-loop-at g l = 65536 * (2 ^ 32 - l.place.block) + (65536 - l.place.index)
