use Rattle.std.proofs.Common.{◌≡◌, ◌≤◌, ◌+◌, ℕ, length, drop, sum_by}
use Rattle.strat_cursor.specs.Sources.{reads_left, reads_of_source, reads_to_seek}
use Rattle.strat_cursor.proofs.BeginLemmas.{Beginning, sum_first}
use Rattle.strat_cursor.proofs.scanning.begin_all.Given as goal
use Rattle.strat_cursor.specs.Views.{arrays_read}
use Rattle.strat_cursor.specs.Looking.{HaveFewBlocks}

abbrev pub invariant-loop-i : goal.invariant-loop-i
invariant-loop-i g l = record {
  begun : Beginning (g.D.Disk.view l.initial.disk) (g.D.Disk.view l.disk) l.query.view.now l.query.version l.query.lo.now l.query.sources.now l.initial.cache l.cache l.i l.positions;
  same : length l.positions ≡ length l.initial.positions;
  faults : g.D.Disk.faults l.disk ≡ g.D.Disk.faults l.initial.disk;
  later : (n : ℕ) → HaveFewBlocks n (arrays_read l.query.view.now l.query.version) → g.D.Disk.reads l.initial.disk ≤ g.D.Disk.reads l.disk;
  reads : (n : ℕ) → HaveFewBlocks n (arrays_read l.query.view.now l.query.version) → g.D.Disk.reads l.disk + sum_first l.i reads_left l.query.sources.now l.positions + sum_by (reads_of_source (reads_to_seek l.query.lo.now n)) (drop l.i l.query.sources.now) ≤ g.D.Disk.reads l.initial.disk + sum_by (reads_of_source (reads_to_seek l.query.lo.now n)) l.query.sources.now;
}
