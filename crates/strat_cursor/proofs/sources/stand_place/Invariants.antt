use Rattle.std.proofs.Common.{◌≡◌, ◌≤◌, length, ◌+◌}
use Rattle.def_bytes.specs.Arrays.{blocks_of}
use Rattle.strat_array.specs.Steps.{blocks_ahead}
use Rattle.strat_cursor.specs.Sources.{places_ahead}
use Rattle.strat_cursor.proofs.StandLemmas.{Standing}
use Rattle.strat_cursor.proofs.sources.stand_place.Given as goal

abbrev pub invariant-loop-at : goal.invariant-loop-at
invariant-loop-at g l =
    Standing (g.D.Disk.view l.initial.disk) (g.D.Disk.view l.disk) l.desc.id (blocks_of l.desc.extents) l.initial.cache l.cache l.initial.scratch l.scratch
    l.query.view.now.tree.now.parents l.query.version l.last l.fn.place l.place
    × (places_ahead l.place ≤ places_ahead l.fn.place)
    × (g.D.Disk.faults l.disk ≡ g.D.Disk.faults l.initial.disk)
    × (g.D.Disk.reads l.initial.disk ≤ g.D.Disk.reads l.disk)
    × (g.D.Disk.reads l.disk + blocks_ahead l.scratch l.desc.id (length (blocks_of l.desc.extents)) l.place
    ≤ g.D.Disk.reads l.initial.disk + blocks_ahead l.initial.scratch l.desc.id (length (blocks_of l.desc.extents)) l.fn.place)

abbrev pub decreases-loop-at : goal.decreases-loop-at
decreases-loop-at g l = places_ahead l.place
