use Rattle.std.proofs.Common.{◌∷◌, arith}
use Rattle.strat_base.specs.Numbers.{be}
use Rattle.strat_base.specs.Fields.{key_field, value_field}
use Rattle.strat_base.proofs.NumberLemmas.{length-be}
use Rattle.strat_base.proofs.FieldLemmas.{length-value_field}
use Rattle.strat_base.proofs.SizeLemmas.{length-put, length-delete, length-clone, length-drop_version}
use Rattle.strat_base.proofs.PlacedLemmas.{placed_next, placed_three}
use Rattle.strat_base.proofs.changes.put_change.Goals as goal

pub put_head-at-requires : goal.put_head-at-requires
put_head-at-requires c = let room = rw c.in-Put.is at c.requires.room in record { room = omega (arith, room, length-put c.in-Put.version c.in-Put.key.now c.in-Put.value.now) }

pub put_key-at-requires-clause-room : goal.put_key-at-requires-clause-room
put_key-at-requires-clause-room c = let room = rw c.in-Put.is at c.requires.room in
    omega (arith, room, length-put c.in-Put.version c.in-Put.key.now c.in-Put.value.now, c.put_head-at.ensures.end, c.put_head-at.auto.into)

pub put_value-requires-clause-room : goal.put_value-requires-clause-room
put_value-requires-clause-room c = let room = rw c.in-Put.is at c.requires.room in
    omega (arith, room, length-put c.in-Put.version c.in-Put.key.now c.in-Put.value.now, length-value_field c.in-Put.value.now, c.put_head-at.ensures.end, c.put_key-at.ensures.end, c.put_head-at.auto.into, c.put_key-at.auto.into)

pub put_head-at-requires-in-Delete : goal.put_head-at-requires-in-Delete
put_head-at-requires-in-Delete c = let room = rw c.in-Delete.is at c.requires.room in record { room = omega (arith, room, length-delete c.in-Delete.version c.in-Delete.key.now) }

pub put_key-requires-clause-room : goal.put_key-requires-clause-room
put_key-requires-clause-room c = let room = rw c.in-Delete.is at c.requires.room in
    omega (arith, room, length-delete c.in-Delete.version c.in-Delete.key.now, c.put_head-at-in-Delete.ensures.end, c.put_head-at-in-Delete.auto.into)

pub put_head-requires : goal.put_head-requires
put_head-requires c = let room = rw c.in-Clone.is at c.requires.room in record { room = omega (arith, room, length-clone c.in-Clone.version) }

pub returns-in-Put-clause-end : goal.returns-in-Put-clause-end
returns-in-Put-clause-end c = rw c.in-Put.is
    (omega (arith, length-put c.in-Put.version c.in-Put.key.now c.in-Put.value.now, length-value_field c.in-Put.value.now, c.put_head-at.ensures.end, c.put_key-at.ensures.end, c.put_value.ensures.end))

pub returns-in-Put-clause-ok : goal.returns-in-Put-clause-ok
returns-in-Put-clause-ok c =
    let v = c.in-Put.version in
    let key = c.in-Put.key.now in
    let room = rw c.in-Put.is at c.requires.room in
    rw (c.in-Put.is, c.put_value.ensures.ok, c.put_key-at.ensures.ok, c.put_head-at.ensures.ok)
    (placed_three c.args.into.now (1 ∷ be 4 v) (key_field key) (value_field c.in-Put.value.now) c.args.at c.put_head-at.result c.put_key-at.result
    (omega (arith, length-be 4 v, c.put_head-at.ensures.end))
    (omega (arith, c.put_key-at.ensures.end))
    (omega (arith, room, length-put v key c.in-Put.value.now, c.put_head-at.ensures.end, c.put_key-at.ensures.end)))

pub returns-in-Delete-clause-end : goal.returns-in-Delete-clause-end
returns-in-Delete-clause-end c = rw c.in-Delete.is
    (omega (arith, length-delete c.in-Delete.version c.in-Delete.key.now, c.put_head-at-in-Delete.ensures.end, c.put_key.ensures.end))

pub returns-in-Delete-clause-ok : goal.returns-in-Delete-clause-ok
returns-in-Delete-clause-ok c =
    let v = c.in-Delete.version in
    let key = c.in-Delete.key.now in
    let room = rw c.in-Delete.is at c.requires.room in
    rw (c.in-Delete.is, c.put_key.ensures.ok, c.put_head-at-in-Delete.ensures.ok)
    (placed_next c.args.into.now (2 ∷ be 4 v) (key_field key) c.args.at c.put_head-at-in-Delete.result
    (omega (arith, length-be 4 v, c.put_head-at-in-Delete.ensures.end))
    (omega (arith, room, length-be 4 v, length-delete v key)))

pub returns-in-Clone-clause-end : goal.returns-in-Clone-clause-end
returns-in-Clone-clause-end c = rw c.in-Clone.is (omega (arith, length-clone c.in-Clone.version, c.put_head.ensures.end))

pub put_head-requires-in-DropVersion : goal.put_head-requires-in-DropVersion
put_head-requires-in-DropVersion c = let room = rw c.in-DropVersion.is at c.requires.room in record { room = omega (arith, room, length-drop_version c.in-DropVersion.version) }

pub returns-in-DropVersion-clause-end : goal.returns-in-DropVersion-clause-end
returns-in-DropVersion-clause-end c = rw c.in-DropVersion.is (omega (arith, length-drop_version c.in-DropVersion.version, c.put_head-in-DropVersion.ensures.end))
