-- Which versions have their intervals.
use Rattle.std.proofs.Common.{◌≡◌, length}
use Rattle.strat_tree.proofs.PassLemmas.{at_each, IsLaid}
use Rattle.strat_tree.proofs.preorder.lay_out.Given as goal

abbrev pub invariant-loop-v : goal.invariant-loop-v
invariant-loop-v l = record {
  starts_len : length l.starts ≡ length l.fn.ends;
  ends_len : length l.ends ≡ length l.fn.ends;
  laid : IsLaid l.parents (length l.fn.ends) l.v (at_each l.fn.ends) (at_each l.starts) (at_each l.ends);
}
