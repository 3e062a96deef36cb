use Rattle.std.proofs.Common.{sym, ◌∙◌}
use Rattle.strat_promote_tests.proofs.ReadyLemmas.{plain_within, plain_low}
use Rattle.strat_promote_tests.proofs.bare.merger_of.Goals as goal

pub open-requires-clause-fits : goal.open-requires-clause-fits
open-requires-clause-fits c = plain_within 1 c.args.desc.now (sym c.is_plain.ensures ∙ c.if-not-is_plain.false)

pub open-requires-clause-room : goal.open-requires-clause-room
open-requires-clause-room c = plain_low 1 c.args.desc.now (sym c.is_plain.ensures ∙ c.if-not-is_plain.false)
