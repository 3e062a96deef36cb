use Rattle.std.proofs.Common.{◌≡◌, ◌≤◌, ◌<◌, ◌+◌, length}
use Rattle.def_crash.specs.Moments.{OnlyReads}
use Rattle.def_bytes.specs.Arrays.{blocks_of}
use Rattle.strat_manifest.specs.Chains.{AreSeen, IsFollowed}
use Rattle.strat_manifest.proofs.chain.Followed.follow_all.Given as goal

abbrev pub invariant-loop-left : goal.invariant-loop-left
invariant-loop-left g l = record {
  followed : IsFollowed (g.D.Disk.view l.initial.disk).content l.first l.links (blocks_of l.self.extents) l.self.bytes.items l.block l.left;
  seen : AreSeen l.self.seen (blocks_of l.self.extents);
  same : OnlyReads (g.D.Disk.view l.initial.disk) (g.D.Disk.view l.disk);
  within : l.block < 4294967295;
  len : length l.buffer ≡ 4096;
  faults : g.D.Disk.faults l.disk ≡ g.D.Disk.faults l.initial.disk;
  later : g.D.Disk.reads l.initial.disk ≤ g.D.Disk.reads l.disk;
  reads : g.D.Disk.reads l.disk + l.left ≤ g.D.Disk.reads l.initial.disk + l.links;
}

abbrev pub decreases-loop-left : goal.decreases-loop-left
decreases-loop-left g l = l.left
