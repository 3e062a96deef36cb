-- So far the run is in progress in front of what was met, with replies that are pending.
use Rattle.std.proofs.Common.{◌≡◌, ◌≤◌, ◌+◌, ◌*◌, ◌-◌, false, length}
use Rattle.strat_base.specs.Numbers.{AreBytes}
use Rattle.def_crash.specs.Moments.{Passes}
use Rattle.strat_memory.specs.Held.{IsConsistent}
use Rattle.strat_loop.specs.Progress.{Meets, ServesPending, waiting}
use Rattle.strat_loop.specs.Session.{HasOpened}
use Rattle.strat_loop.specs.World.{world}
use Rattle.strat_loop.proofs.serving.serve_frames.Given as goal

abbrev pub invariant-loop-met : goal.invariant-loop-met
invariant-loop-met g l = record {
  progress : (d : g.row.D.Denot) → HasOpened (g.D.Disk.view d) (g.D.Disk.faults d) (g.D.Disk.view l.fn.disk) (g.D.Disk.faults l.fn.disk) l.fn.store
      → ServesPending g.P.Protocol.speech l.fn.store l.store l.taken (waiting l.met l.buffers.frames) l.buffers.pending
      (world (g.S.Source.left l.fn.source) (g.S.Source.faults l.fn.source) (g.K.Sink.held l.fn.sink) (g.K.Sink.faults l.fn.sink) (g.D.Disk.view d) (g.D.Disk.faults d))
      (world (g.S.Source.left l.source) (g.S.Source.faults l.source) (g.K.Sink.held l.sink) (g.K.Sink.faults l.sink) (g.D.Disk.view l.disk) (g.D.Disk.faults l.disk));
  meets : Meets l.met l.buffers.frames;
  bytes : AreBytes l.buffers.frames.held;
  going : l.store.spent ≡ false;
  lawful : IsConsistent l.store;
  time : Passes (g.D.Disk.view l.fn.disk) (g.D.Disk.view l.disk);
  within : l.taken ≤ l.budget;
  source_same : g.S.Source.faults l.source ≡ g.S.Source.faults l.fn.source;
  sink_same : g.K.Sink.faults l.sink ≡ g.K.Sink.faults l.fn.sink;
  disk_same : g.D.Disk.faults l.disk ≡ g.D.Disk.faults l.fn.disk;
}

abbrev pub decreases-loop-met : goal.decreases-loop-met
decreases-loop-met g l = 2 * (l.budget - l.taken) + length (waiting l.met l.buffers.frames)
