use Rattle.std.proofs.Common.{◌∷◌, [], length, sym, ap, arith, length-append}
use Rattle.strat_base.specs.ChangeView.{change_of}
use Rattle.strat_journal.specs.Log.{Log, batch_joined}
use Rattle.strat_memory.specs.RecoveredFields.{empty_cache, held_of}
use Rattle.strat_store.specs.Staging.{held_joined}
use Rattle.strat_store.proofs.ChangingLemmas.{kept_more, room_kept}
use Rattle.strat_store.proofs.StagingLemmas.{joined_more, place_room}
use Rattle.strat_store.proofs.staging.stage_change.Goals as goal

pub has_place-requires : goal.has_place-requires
has_place-requires c =
    let whole = c.requires.kept (empty_cache 0) in
    record { len = (c.requires.len, sym whole.log.mem) }

pub take-requires-clause-room : goal.take-requires-clause-room
take-requires-clause-room c =
    let whole = c.requires.kept (empty_cache 0) in
    let room = (place_room c.args.held.now.journal (sym c.if-not-has_place.ensures.ok)).1 in
    let many = length-append c.args.held.now.journal.list c.args.held.now.journal.batch in
    room_kept (held_joined (held_of c.args.held.now (empty_cache 0))) whole _ (omega (arith, room, many, whole.log.mem, whole.lawful.mem_least)) (λ unsealed. omega (arith, room, many, whole.log.mem))

pub returns-clause-kept : goal.returns-clause-kept
returns-clause-kept c cached =
    let r = c.args.held.now in
    let whole = c.requires.kept cached in
    let room = (place_room r.journal (sym c.if-not-has_place.ensures.ok)).1 in
    let many = length-append r.journal.list r.journal.batch in
    kept_more (record r { journal = batch_joined r.journal }) cached whole _ c.requires.fits (sym c.in-None.ensures.ok) (omega (arith, room, many, whole.log.mem, whole.lawful.mem_least)) (λ unsealed. omega (arith, room, many, whole.log.mem))
    (batch_joined c.add.new.self) c.take.new.self (joined_more r.journal c.add.new.self _ c.add.ensures.ok) c.take.ensures.ok

pub returns-clause-room : goal.returns-clause-room
returns-clause-room c = λ done some.
    let r = c.args.held.now in
    let room = (place_room r.journal (sym c.if-not-has_place.ensures.ok)).1 in
    let added = c.add.ensures.ok in
    let lists = ap (λ (l : Log). length l.list) added in
    let batches = ap (λ (l : Log). length l.batch) added in
    let mems = ap (λ (l : Log). l.mem) added in
    omega (arith, room, lists, batches, mems, length-append r.journal.batch (change_of c.args.change.now ∷ []))
