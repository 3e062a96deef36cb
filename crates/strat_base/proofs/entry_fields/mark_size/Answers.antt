use Rattle.std.proofs.Common.{arith}
use Rattle.strat_base.proofs.FieldLemmas.{length-value_field}
use Rattle.strat_base.proofs.entry_fields.mark_size.Goals as goal

pub returns-in-Put-clause-ok : goal.returns-in-Put-clause-ok
returns-in-Put-clause-ok c = rw c.in-Put.is (omega (arith, length-value_field c.in-Put.value.now))
