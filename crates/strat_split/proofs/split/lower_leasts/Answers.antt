use Rattle.std.proofs.Common.{◌+◌, List, get_or, refl, sym, subst}
use Rattle.strat_split.specs.Placing.{IsLowered}
use Rattle.strat_split.specs.declared.parts.Part.{Part}
use Rattle.strat_split.proofs.LeastLemmas.{lowered_none, lowered_more}
use Rattle.strat_split.proofs.split.lower_leasts.Goals as goal

pub loop-v-init : goal.loop-v-init
loop-v-init c = lowered_none c.args.labels.now c.args.live.now c.args.parts.now

pub loop-v-preserved : goal.loop-v-preserved
loop-v-preserved c = subst (λ (parts : List Part). IsLowered c.args.labels.now c.args.live.now (c.loop-v.v + 1) c.args.parts.now parts) (sym c.lower.ensures.ok) (lowered_more c.args.labels.now c.args.live.now c.loop-v.v (get_or c.args.labels.now c.loop-v.v 0) c.args.parts.now c.loop-v.parts c.loop-v.invariant refl)
