use Rattle.std.proofs.Common.{◌≡◌, ◌-◌}
use Rattle.std.specs.Prelude.{None}
use Rattle.def_bytes.specs.Arrays.{blocks_of}
use Rattle.strat_array.proofs.LyingLemmas.{Searching}
use Rattle.strat_array.proofs.search.seek.Given as goal

abbrev pub invariant-loop-low : goal.invariant-loop-low
invariant-loop-low g l =
    Searching (g.D.Disk.view l.initial.disk) (g.D.Disk.view l.disk) l.desc.id (blocks_of l.desc.extents) l.initial.cache l.cache None l.scratch
    l.key (g.D.Disk.reads l.initial.disk) (g.D.Disk.reads l.disk) l.low l.high l.tries
    × (g.D.Disk.faults l.disk ≡ g.D.Disk.faults l.initial.disk)

abbrev pub decreases-loop-low : goal.decreases-loop-low
decreases-loop-low g l = l.high - l.low
