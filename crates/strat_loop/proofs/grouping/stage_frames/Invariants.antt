-- So far bodies were staged, and their frames and replies are in between.
use Rattle.std.proofs.Common.{◌≡◌, ◌≤◌, ◌*◌, ◌++◌, ℕ, List, length, false}
use Rattle.std.specs.List.{flat_map, AllByRecursion}
use Rattle.strat_model.specs.Stream.{frame, IsBody}
use Rattle.strat_loop.specs.Grouping.{StagesBodies}
use Rattle.strat_loop.proofs.grouping.stage_frames.Given as goal
use Rattle.strat_loop.specs.Speech.{Said, said_bytes}

abbrev pub invariant-loop-store : goal.invariant-loop-store
invariant-loop-store g l = record {
  bodies : List (List ℕ);
  responses : List Said;
  stages : StagesBodies g.P.Protocol.speech l.fn.store bodies responses l.store;
  each : AllByRecursion IsBody bodies;
  parts : l.fn.buffers.frames.held ≡ flat_map frame bodies ++ l.buffers.frames.held;
  text : l.buffers.staged ≡ l.fn.buffers.staged ++ said_bytes responses;
  room : length l.buffers.staged ≤ 1295 * length l.store.log.batch;
  same : l.buffers.pending ≡ l.fn.buffers.pending;
  going : l.store.spent ≡ false;
}

abbrev pub decreases-loop-store : goal.decreases-loop-store
decreases-loop-store g l = length l.buffers.frames.held
