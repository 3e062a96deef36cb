use Rattle.std.proofs.Common.{◌≡◌, length}
use Rattle.strat_manifest.proofs.ChainWriteLemmas.{ExtentsSoFar}
use Rattle.strat_manifest.proofs.chain_write.write_extents.Given as goal

abbrev pub invariant-loop-i : goal.invariant-loop-i
invariant-loop-i g l = record {
  so_far : ExtentsSoFar (g.D.Disk.view l.initial.disk) (g.D.Disk.view l.disk) l.extents l.i l.at l.head l.bytes;
  len : length l.buffer ≡ 4096;
  faults : g.D.Disk.faults l.disk ≡ g.D.Disk.faults l.initial.disk;
  reads : g.D.Disk.reads l.disk ≡ g.D.Disk.reads l.initial.disk;
}

abbrev pub decreases-loop-i : goal.decreases-loop-i
decreases-loop-i g l = l.i
