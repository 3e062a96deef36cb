use Rattle.std.proofs.Common.{◌≡◌, ◌+◌, ◌*◌, ◌≤◌, ◌++◌, length, take}
use Rattle.strat_model.specs.Spelling.{pair_bytes}
use Rattle.strat_frame.proofs.replies.put_pairs.Given as goal

abbrev pub invariant-loop-i : goal.invariant-loop-i
invariant-loop-i l = record {
  ok : l.out ≡ l.fn.out ++ pair_bytes (take l.i l.pairs);
  few : length l.out ≤ length l.fn.out + 1283 * l.i;
}
