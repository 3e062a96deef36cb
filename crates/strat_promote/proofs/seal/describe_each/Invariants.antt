-- The arrays below q are described.
use Rattle.strat_split.specs.PlanSeen.{plan_seen}
use Rattle.strat_promote.proofs.DescribingLemmas.{AreDescribing}
use Rattle.strat_promote.proofs.seal.describe_each.Given as goal

abbrev pub invariant-loop-q : goal.invariant-loop-q
invariant-loop-q l = AreDescribing (plan_seen l.plan) l.q l.writers l.tags.items l.arrays
