use Rattle.std.proofs.Common.{◌≡◌, ◌≤◌, ◌+◌}
use Rattle.def_crash.specs.Moments.{OnlyReads}
use Rattle.strat_cursor.specs.Walking.{IsWalk, arrays_walked, reads_walked, steps_walked}
use Rattle.strat_bulk.proofs.PageLemmas.{PagesSoFar}
use Rattle.strat_bulk.proofs.pages.write_pages.Given as goal

abbrev pub invariant-loop-more : goal.invariant-loop-more
invariant-loop-more g l = record {
  so_far : PagesSoFar (g.D.Disk.view l.initial.disk).content (g.K.Sink.held l.initial.sink) (g.K.Sink.held l.sink) l.initial.walk l.walk l.initial.cache l.cache l.frames.tag;
  walk : IsWalk l.walk;
  arrays : arrays_walked l.walk ≡ arrays_walked l.initial.walk;
  reads_only : OnlyReads (g.D.Disk.view l.initial.disk) (g.D.Disk.view l.disk);
  disk_faults : g.D.Disk.faults l.disk ≡ g.D.Disk.faults l.initial.disk;
  sink_faults : g.K.Sink.faults l.sink ≡ g.K.Sink.faults l.initial.sink;
  later : g.D.Disk.reads l.initial.disk ≤ g.D.Disk.reads l.disk;
  reads : g.D.Disk.reads l.disk + reads_walked l.walk ≤ g.D.Disk.reads l.initial.disk + reads_walked l.initial.walk;
}

abbrev pub decreases-loop-more : goal.decreases-loop-more
decreases-loop-more g l = steps_walked l.walk
