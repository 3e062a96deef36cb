use Rattle.std.proofs.Common.{arith}
use Rattle.strat_base.specs.EntryView.{entry_of}
use Rattle.strat_base.proofs.EntryFieldLemmas.{length-entry}
use Rattle.strat_base.proofs.entry_fields.entry_size.Goals as goal

pub returns-clause-ok : goal.returns-clause-ok
returns-clause-ok c = omega (arith, length-entry (entry_of c.args.e.now), c.mark_size.ensures.ok)
