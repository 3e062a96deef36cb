use Rattle.std.proofs.Common.{ap, ◌∙◌, nat_le, arith}
use Rattle.strat_memory.proofs.BelongingLemmas.{few_leads}
use Rattle.strat_memory.proofs.belonging.has_few_leads.Goals as goal

pub returns : goal.returns
returns c = record {
  ok = ap (λ n. nat_le n c.args.updates) c.leads_of_levels.ensures.ok ∙ few_leads c.args.levels.now c.args.updates (omega (arith, c.ranges.updates.fits));
}
