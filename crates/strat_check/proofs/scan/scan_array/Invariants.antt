use Rattle.std.proofs.Common.{◌≡◌, ◌≤◌, ◌+◌, ◌*◌, length}
use Rattle.def_crash.specs.Image.{Image}
use Rattle.def_crash.specs.Moments.{Exposes, OnlyReads}
use Rattle.def_bytes.specs.Arrays.{blocks_of}
use Rattle.strat_merge.specs.Runs.{ReadsFront}
use Rattle.strat_check.proofs.ScanLemmas.{Scanning}
use Rattle.strat_check.proofs.scan.scan_array.Given as goal

abbrev pub invariant-loop-block : goal.invariant-loop-block
invariant-loop-block g l =
    record {
      told : (f : Image) → Exposes (g.D.Disk.view l.initial.disk) f → Scanning f (blocks_of l.desc.extents) l.numbers l.versions l.last l.all;
      same : OnlyReads (g.D.Disk.view l.initial.disk) (g.D.Disk.view l.disk);
      faults : g.D.Disk.faults l.disk ≡ g.D.Disk.faults l.initial.disk;
      reads : ReadsFront (blocks_of l.desc.extents) l.numbers (g.D.Disk.reads l.initial.disk) (g.D.Disk.reads l.disk);
      few : l.all.entries + 454 * length l.numbers ≤ 454 * length (blocks_of l.desc.extents);
    }

abbrev pub decreases-loop-block : goal.decreases-loop-block
decreases-loop-block g l = length l.numbers
