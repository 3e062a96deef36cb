use Rattle.std.proofs.Common.{◌≡◌, ◌-◌, ◌≤◌, length}
use Rattle.strat_frame.specs.Fields.{pairs_then}
use Rattle.strat_frame.proofs.PageLemmas.{continued}
use Rattle.strat_frame.proofs.replies.pairs_then.Given as goal

abbrev pub invariant-loop : goal.invariant-loop
invariant-loop l = record {
  ok : continued l.pairs (pairs_then (l.count - l.counter) l.rest) ≡ pairs_then l.count l.fn.bytes;
  few : length l.pairs ≤ l.counter;
}
