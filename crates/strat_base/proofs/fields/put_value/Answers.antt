use Rattle.std.proofs.Common.{length, arith}
use Rattle.strat_base.specs.Numbers.{be}
use Rattle.strat_base.proofs.NumberLemmas.{length-be}
use Rattle.strat_base.proofs.FieldLemmas.{length-value_field}
use Rattle.strat_base.proofs.PlacedLemmas.{placed_next}
use Rattle.strat_base.proofs.fields.put_value.Goals as goal

pub put_u16-requires : goal.put_u16-requires
put_u16-requires c = omega (arith, length-value_field c.args.value.now, c.requires.room)

pub put_bytes-requires : goal.put_bytes-requires
put_bytes-requires c = omega (arith, length-value_field c.args.value.now, c.requires.room, c.put_u16.auto.into)

pub returns-clause-end : goal.returns-clause-end
returns-clause-end c = omega (arith, length-value_field c.args.value.now, c.put_bytes.ensures.end)

pub returns-clause-ok : goal.returns-clause-ok
returns-clause-ok c =
    rw (c.put_bytes.ensures.ok, c.put_u16.ensures)
    (placed_next c.args.into.now (be 2 (length c.args.value.now)) c.args.value.now c.args.at _
    (omega (arith, length-be 2 (length c.args.value.now)))
    (omega (arith, length-be 2 (length c.args.value.now), length-value_field c.args.value.now, c.requires.room)))
