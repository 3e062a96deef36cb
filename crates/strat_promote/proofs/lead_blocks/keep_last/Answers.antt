use Rattle.std.proofs.Common.{ap, ◌∙◌}
use Rattle.strat_promote.specs.LeadRuns.{key_alone}
use Rattle.strat_promote.proofs.LeadLemmas.{last_held}
use Rattle.strat_promote.proofs.lead_blocks.keep_last.Goals as goal

pub returns : goal.returns
returns c =
    record { ok = c.set.ensures.ok ∙ ap key_alone (last_held c.args.scratch.now c.args.len _ c.requires c.if-len-eq0.false c.entry.ensures.ok) }
