-- The dealer is for as many parts.
use Rattle.std.proofs.Common.{◌≡◌, length}
use Rattle.strat_split_tests.proofs.dealt.deals.Given as goal

abbrev pub invariant-loop-key : goal.invariant-loop-key
invariant-loop-key l = length l.dealer.heads ≡ length l.made.parts
