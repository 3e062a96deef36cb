use Rattle.std.proofs.Common.{refl, true, false, sym, subst}
use Rattle.strat_journal.specs.Log.{Log}
use Rattle.def_publish.specs.Appending.{AppendsBatch, with_batch}
use Rattle.strat_memory.specs.Held.{StandsAt}
use Rattle.strat_memory.specs.RecoveredFields.{held_of}
use Rattle.strat_store.proofs.CommitLemmas.{commit_at, commit_either, commit_failed, commit_leaves, commit_stands, commit_trail}
use Rattle.strat_store.proofs.staging.append_staged.Given.{Over}
use Rattle.strat_store.proofs.staging.append_staged.Goals as goal
use Rattle.strat_store.proofs.staging.append_staged.Goals.{After-append}

appends : (g : Over) (c : After-append g) → AppendsBatch (g.D.Disk.view c.args.disk.now) (g.D.Disk.view c.append.new.disk) c.args.held.now.journal
appends g c = record { images = c.append.ensures.images; time = c.append.ensures.time; each = c.append.ensures.trail }

pub returns-in_default-clause-trail : goal.returns-in_default-clause-trail
returns-in_default-clause-trail g c = λ x cached stands.
    commit_either (g.D.Disk.view c.args.disk.now) (g.D.Disk.view c.append.new.disk) (held_of c.args.held.now cached) (c.requires.kept cached) c.requires.len (c.requires.room c.requires.len)
    (appends g (goal.at.returns-in_default-clause-trail g c).After-append) x stands

pub returns-in_default-clause-same : goal.returns-in_default-clause-same
returns-in_default-clause-same g c = λ cached.
    commit_failed (g.D.Disk.view c.args.disk.now) (g.D.Disk.view c.append.new.disk) (held_of c.args.held.now cached) (c.requires.kept cached) c.requires.len (c.requires.room c.requires.len)
    (appends g (goal.at.returns-in_default-clause-same g c).After-append) (held_of (record c.args.held.now { journal = c.append.new.self }) cached) true (record { slot = refl; sb = refl; chained = refl; levels = refl; filters = refl }) refl

pub returns-clause-trail : goal.returns-clause-trail
returns-clause-trail g c = λ x cached stands.
    commit_trail (g.D.Disk.view c.args.disk.now) (g.D.Disk.view c.append.new.disk) (held_of c.args.held.now cached) (c.requires.kept cached) c.requires.len (c.requires.room c.requires.len)
    (appends g (goal.at.returns-clause-trail g c).After-append) x stands c.append.new.self c.in-Ok.ensures.ok c.in-Ok.ensures.kept

pub returns-clause-state : goal.returns-clause-state
returns-clause-state g c = λ x rows cached at.
    let s = held_of c.args.held.now cached in
    let all = appends g (goal.at.returns-clause-state g c).After-append in
    let now = commit_stands (g.D.Disk.view c.args.disk.now) (g.D.Disk.view c.append.new.disk) s (c.requires.kept cached) c.requires.len (c.requires.room c.requires.len) all x at.stands c.append.new.self c.in-Ok.ensures.ok c.in-Ok.ensures.kept
    (g.met.D.Disk.leaves_content c.append.new.disk) in
    subst (λ (log : Log). StandsAt (g.D.Disk.view c.append.new.disk) (record s { log = log }) (with_batch x c.args.held.now.journal.batch) rows) (sym c.in-Ok.ensures.ok)
    (commit_at (g.D.Disk.view c.args.disk.now) (g.D.Disk.view c.append.new.disk) s (c.requires.kept cached) c.requires.len (c.requires.room c.requires.len) all c.in-Ok.ensures.durable x rows now at)

pub returns-clause-same : goal.returns-clause-same
returns-clause-same g c = λ cached.
    commit_leaves (g.D.Disk.view c.args.disk.now) (g.D.Disk.view c.append.new.disk) (held_of c.args.held.now cached) (c.requires.kept cached) c.requires.len (c.requires.room c.requires.len)
    (appends g (goal.at.returns-clause-same g c).After-append) c.in-Ok.ensures.durable (held_of (record c.args.held.now { journal = c.append.new.self }) cached) false (record { slot = refl; sb = refl; chained = refl; levels = refl; filters = refl }) refl
