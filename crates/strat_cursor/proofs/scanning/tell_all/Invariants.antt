use Rattle.std.proofs.Common.{◌≡◌, ◌≤◌, ◌+◌, length, vec_capacity}
use Rattle.strat_merge.specs.Bracket.{IsTournament}
use Rattle.strat_cursor.specs.Contenders.{contenders}
use Rattle.strat_cursor.specs.Sources.{reads_left, steps_left}
use Rattle.strat_cursor.specs.Emitting.{AreSettled, sum_over}
use Rattle.strat_cursor.proofs.TellLemmas.{Telling}
use Rattle.strat_cursor.proofs.scanning.tell_all.Given as goal

abbrev pub invariant-loop-w : goal.invariant-loop-w
invariant-loop-w g l = record {
  telling : Telling (g.D.Disk.view l.initial.disk) (g.D.Disk.view l.disk) l.query.view.now l.query.version l.query.hi.now l.query.sources.now l.initial.cache l.cache l.initial.last.items l.last.items l.initial.positions l.positions l.initial.out l.out;
  settled : AreSettled l.query.view.now.tree.now.parents l.query.version l.query.view.now.pool.now l.query.sources.now l.positions;
  won : IsTournament (contenders l.query.view.now.pool.now l.query.sources.now l.positions) l.winners;
  few : length l.out ≤ l.query.limit;
  room : 255 ≤ vec_capacity l.last;
  same : length l.positions ≡ length l.initial.positions;
  faults : g.D.Disk.faults l.disk ≡ g.D.Disk.faults l.initial.disk;
  later : g.D.Disk.reads l.initial.disk ≤ g.D.Disk.reads l.disk;
  fewer : sum_over (steps_left l.query.view.now.pool.now) l.query.sources.now l.positions + length l.out ≤ sum_over (steps_left l.query.view.now.pool.now) l.query.sources.now l.initial.positions + length l.initial.out;
  reads : g.D.Disk.reads l.disk + sum_over reads_left l.query.sources.now l.positions ≤ g.D.Disk.reads l.initial.disk + sum_over reads_left l.query.sources.now l.initial.positions;
}

abbrev pub decreases-loop-w : goal.decreases-loop-w
decreases-loop-w g l = sum_over (steps_left l.query.view.now.pool.now) l.query.sources.now l.positions
