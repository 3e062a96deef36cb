use Rattle.std.proofs.Common.{◌≡◌, ◌≤◌, length}
use Rattle.strat_manifest.proofs.ChainWriteLemmas.{RunSoFar}
use Rattle.strat_manifest.proofs.chain_write.write_run.Given as goal

abbrev pub invariant-loop-left : goal.invariant-loop-left
invariant-loop-left g l = record {
  so_far : RunSoFar (g.D.Disk.view l.initial.disk) (g.D.Disk.view l.disk) l.run.start l.run.len l.next l.left l.head l.bytes;
  within : l.left ≤ l.run.len;
  len : length l.buffer ≡ 4096;
  faults : g.D.Disk.faults l.disk ≡ g.D.Disk.faults l.initial.disk;
  reads : g.D.Disk.reads l.disk ≡ g.D.Disk.reads l.initial.disk;
}

abbrev pub decreases-loop-left : goal.decreases-loop-left
decreases-loop-left g l = l.left
