-- The versions below v are in the lists of their parts.
use Rattle.std.proofs.Common.{◌≡◌, length}
use Rattle.strat_promote.proofs.TagsLemmas.{tags_below}
use Rattle.strat_promote.proofs.seal.tags_of.Given as goal

abbrev pub invariant-loop-v : goal.invariant-loop-v
invariant-loop-v l = l.tags.items ≡ tags_below l.plan.part_of l.v (length l.plan.parts)
