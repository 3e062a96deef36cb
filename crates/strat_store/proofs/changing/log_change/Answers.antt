use Rattle.std.proofs.Common.{◌≡◌, List, length, ap, arith}
use Rattle.strat_base.specs.Change.{Change}
use Rattle.def_publish.specs.Appending.{AppendsBatch}
use Rattle.strat_store.proofs.LoggingLemmas.{logged_behind, logged_paid, logged_super, logged_trail, logged_stands, room_some}
use Rattle.strat_store.proofs.changing.log_change.Given.{Over}
use Rattle.strat_store.proofs.changing.log_change.Goals as goal
use Rattle.strat_store.proofs.changing.log_change.Goals.{After-append}

pub add-requires-clause-room : goal.add-requires-clause-room
add-requires-clause-room g c =
    let none : length c.args.journal.now.batch ≡ 0 = ap (λ (cs : List Change). length cs) c.requires.none in
    let some = room_some c.args.journal.now c.requires.room in
    (omega (arith, none), omega (arith, none, some))

appends : (g : Over) (c : After-append g) → AppendsBatch (g.D.Disk.view c.args.disk.now) (g.D.Disk.view c.append.new.disk) c.add.new.self
appends g c = record { images = c.append.ensures.images; time = c.append.ensures.time; each = c.append.ensures.trail }

pub returns-in_err-append-clause-trail : goal.returns-in_err-append-clause-trail
returns-in_err-append-clause-trail g c x stands of takes =
    let appended = appends g (goal.at.returns-in_err-append-clause-trail g c).After-append in (
      logged_trail _ (g.D.Disk.view c.append.new.disk) x c.args.journal.now c.add.new.self _ stands of c.requires.none c.add.ensures.ok takes appended,
      logged_paid _ (g.D.Disk.view c.append.new.disk) x c.args.journal.now c.add.new.self _ stands of c.requires.none c.add.ensures.ok takes appended,
      logged_super _ (g.D.Disk.view c.append.new.disk) x c.args.journal.now c.add.new.self _ stands of c.requires.none c.add.ensures.ok takes appended,
    )

pub returns-clause-trail : goal.returns-clause-trail
returns-clause-trail g c x stands of takes =
    let appended = appends g (goal.at.returns-clause-trail g c).After-append in (
      logged_trail _ (g.D.Disk.view c.append.new.disk) x c.args.journal.now c.add.new.self _ stands of c.requires.none c.add.ensures.ok takes appended,
      logged_paid _ (g.D.Disk.view c.append.new.disk) x c.args.journal.now c.add.new.self _ stands of c.requires.none c.add.ensures.ok takes appended,
      logged_super _ (g.D.Disk.view c.append.new.disk) x c.args.journal.now c.add.new.self _ stands of c.requires.none c.add.ensures.ok takes appended,
    )

pub returns-clause-kept : goal.returns-clause-kept
returns-clause-kept g c x stands of takes =
    logged_stands _ (g.D.Disk.view c.append.new.disk) x c.args.journal.now c.add.new.self _ stands of c.requires.none c.add.ensures.ok takes
    (appends g (goal.at.returns-clause-kept g c).After-append) c.append.new.self c.in_ok-append.ensures.ok c.in_ok-append.ensures.kept
    (g.met.D.Disk.leaves_content c.append.new.disk)

pub returns-clause-same : goal.returns-clause-same
returns-clause-same g c =
    logged_behind _ (g.D.Disk.view c.append.new.disk) c.args.journal.now c.add.new.self _ c.requires.none c.add.ensures.ok
    c.requires.fits c.requires.kept.0 c.requires.room c.requires.kept.1 c.in_ok-append.ensures.durable
