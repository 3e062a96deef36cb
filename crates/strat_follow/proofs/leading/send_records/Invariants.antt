use Rattle.std.proofs.Common.{◌≡◌, ◌≤◌, List, length}
use Rattle.strat_base.specs.Change.{Change}
use Rattle.strat_follow.specs.Walking.{ArePutTogether}
use Rattle.strat_follow.proofs.WalkLemmas.{IsWalked}
use Rattle.strat_follow.proofs.leading.send_records.Given as goal

abbrev pub invariant-loop-i : goal.invariant-loop-i
invariant-loop-i g l = record {
  within : l.at ≤ length l.records;
  walked : (list : List Change) → ArePutTogether l.records l.count list → IsWalked l.records list l.first l.i l.at (g.K.Sink.held l.fn.sink) (g.K.Sink.held l.sink);
  same : g.K.Sink.faults l.sink ≡ g.K.Sink.faults l.fn.sink;
}
