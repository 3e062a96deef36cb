use Rattle.std.proofs.Common.{◌+◌, arith}
use Rattle.strat_base.specs.Numbers.{be}
use Rattle.strat_base.specs.Fields.{key_field}
use Rattle.strat_base.specs.EntryBytes.{mark_field}
use Rattle.strat_base.specs.EntryView.{val_of, entry_of}
use Rattle.strat_base.proofs.NumberLemmas.{length-be}
use Rattle.strat_base.proofs.EntryFieldLemmas.{length-entry}
use Rattle.strat_base.proofs.PlacedLemmas.{placed_three}
use Rattle.strat_base.proofs.entry_fields.put_entry.Goals as goal

pub put_u32-requires : goal.put_u32-requires
put_u32-requires c = omega (arith, c.requires.room, length-entry (entry_of c.args.e.now), c.put_key-at.ensures.end, c.put_key-at.auto.into)

pub put_mark-requires-clause-room : goal.put_mark-requires-clause-room
put_mark-requires-clause-room c =
    omega (arith, c.requires.room, length-entry (entry_of c.args.e.now), c.put_key-at.ensures.end, c.put_key-at.auto.into, c.put_u32.auto.into)

pub returns-clause-end : goal.returns-clause-end
returns-clause-end c = omega (arith, length-entry (entry_of c.args.e.now), c.put_key-at.ensures.end, c.put_mark.ensures.end)

pub returns-clause-ok : goal.returns-clause-ok
returns-clause-ok c =
    let e = c.args.e.now in
    rw (c.put_mark.ensures.ok, c.put_u32.ensures, c.put_key-at.ensures.ok)
    (placed_three c.args.into.now (key_field e.key.now) (be 4 e.version) (mark_field (val_of e.val)) c.args.at c.put_key-at.result (c.put_key-at.result + 4)
    (omega (arith, c.put_key-at.ensures.end))
    (omega (arith, length-be 4 e.version))
    (omega (arith, c.requires.room, length-entry (entry_of e), c.put_key-at.ensures.end)))
