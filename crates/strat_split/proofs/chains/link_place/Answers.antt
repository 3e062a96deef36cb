use Rattle.std.proofs.Common.{arith}
use Rattle.strat_split.proofs.ChainLemmas.{link_placed, link_passed}
use Rattle.strat_split.proofs.chains.link_place.Goals as goal

pub returns-then-label-firsts : goal.returns-then-label-firsts
returns-then-label-firsts c = record { ok = λ labels lt is linked. link_placed labels c.args.firsts.now c.args.nexts.now c.args.i c.args.label is linked lt (omega (arith, c.if-label-firsts.true)) }

pub returns-else-label-firsts : goal.returns-else-label-firsts
returns-else-label-firsts c = record { ok = λ labels lt is linked. link_passed labels c.args.firsts.now c.args.nexts.now c.args.i c.args.label is linked lt (omega (arith, c.if-label-firsts.false)) }
