use Rattle.std.proofs.Common.{ℕ, refl, inl, inr, subst}
use Rattle.strat_model.specs.declared.ended.Ended.TheVariants as ended
use Rattle.strat_memory.specs.Held.{head_held}
use Rattle.strat_loop.specs.Spoken.{ServedBy}
use Rattle.strat_loop.specs.World.{World, world}
use Rattle.strat_follow.specs.Leading.{LeadsOn, StopsAtJournal}
use Rattle.strat_follow.specs.Leads.{leads}
use Rattle.strat_follow.proofs.LeadLemmas.{caused_after, leads_tables, no_memory}
use Rattle.strat_follow.proofs.leading.lead.Given.{Over}
use Rattle.strat_follow.proofs.leading.lead.Goals as goal
use Rattle.strat_follow.proofs.leading.lead.Goals.{After-serve_open, In_default-send_journal}

-- what a source, a sink and a disk show
abbrev shown : (g : Over) → g.row.S.Denot → g.row.K.Denot → g.row.D.Denot → World
shown g source sink disk = world (g.S.Source.left source) (g.S.Source.faults source) (g.K.Sink.held sink) (g.K.Sink.faults sink) (g.D.Disk.view disk) (g.D.Disk.faults disk)

pub returns-in_default-clause-kept : goal.returns-in_default-clause-kept
returns-in_default-clause-kept g c =
    let before = shown g c.args.source.now c.args.sink.now c.args.disk.now in
    leads_tables c.args.budget ended.NoMemory before before (inl (no_memory before))

pub returns-in-Err-clause-ok : goal.returns-in-Err-clause-ok
returns-in-Err-clause-ok g c = inl (c.in-Err.ensures.err (g.S.Source.left c.args.source.now) (g.K.Sink.held c.args.sink.now) (g.S.Source.faults c.args.source.now) (g.K.Sink.faults c.args.sink.now))

pub returns-in-Err-clause-kept : goal.returns-in-Err-clause-kept
returns-in-Err-clause-kept g c =
    leads_tables c.args.budget c.in-Err.how (shown g c.args.source.now c.args.sink.now c.args.disk.now) (shown g c.args.source.now c.args.sink.now c.open_store.new.disk)
    (inl (c.in-Err.ensures.err (g.S.Source.left c.args.source.now) (g.K.Sink.held c.args.sink.now) (g.S.Source.faults c.args.source.now) (g.K.Sink.faults c.args.sink.now)))

-- the sink failed before anything was read
stopped : (g : Over) (c : In_default-send_journal g) → StopsAtJournal ended.Sink (shown g c.args.source.now c.args.sink.now c.args.disk.now) (shown g c.args.source.now c.send_journal.new.sink c.open_store.new.disk)
stopped g c =
    let opened = c.in-Ok-open_store.ensures.ok.0 in
    record {
      ends = refl;
      source = refl;
      head = head_held c.in-Ok-open_store.store;
      found = opened.opened.found;
      cut = c.in_default-send_journal.ensures.err;
      calm = opened.calm;
      still = λ f exposed. (c.in-Ok-open_store.store.slot, c.in-Ok-open_store.store.sb, opened.opened.gate f exposed);
      follows = opened.opened.follows;
    }

pub returns-in_default-send_journal-clause-ok : goal.returns-in_default-send_journal-clause-ok
returns-in_default-send_journal-clause-ok g c = inr (inl (stopped g (goal.at.returns-in_default-send_journal-clause-ok g c).In_default-send_journal))

pub returns-in_default-send_journal-clause-kept : goal.returns-in_default-send_journal-clause-kept
returns-in_default-send_journal-clause-kept g c =
    leads_tables c.args.budget ended.Sink (shown g c.args.source.now c.args.sink.now c.args.disk.now) (shown g c.args.source.now c.send_journal.new.sink c.open_store.new.disk)
    (inr (inl (stopped g (goal.at.returns-in_default-send_journal-clause-kept g c).In_default-send_journal)))

-- what was served after the opening
led : (g : Over) (c : After-serve_open g) → LeadsOn c.args.budget c.serve_open.result (shown g c.args.source.now c.args.sink.now c.args.disk.now)
    (shown g c.serve_open.new.source c.serve_open.new.sink c.serve_open.new.disk)
led g c =
    let opened = c.in-Ok-open_store.ensures.ok.0 in
    let now = shown g c.serve_open.new.source c.serve_open.new.sink c.serve_open.new.disk in
    record {
      head = head_held c.in-Ok-open_store.store;
      found = opened.opened.found;
      held = g.K.Sink.held c.send_journal.new.sink;
      sent = c.in-Ok-send_journal.ensures.ok;
      served = subst (λ (n : ℕ). ServedBy leads c.args.budget c.serve_open.result
          (world (g.S.Source.left c.args.source.now) (g.S.Source.faults c.args.source.now) (g.K.Sink.held c.send_journal.new.sink) n (g.D.Disk.view c.args.disk.now) (g.D.Disk.faults c.args.disk.now)) now)
          c.in-Ok-send_journal.ensures.cause.ok (c.serve_open.ensures.ok c.args.disk.now opened);
    }

pub returns-clause-ok : goal.returns-clause-ok
returns-clause-ok g c = inr (inr (led g (goal.at.returns-clause-ok g c).After-serve_open))

pub returns-clause-kept : goal.returns-clause-kept
returns-clause-kept g c =
    leads_tables c.args.budget c.serve_open.result (shown g c.args.source.now c.args.sink.now c.args.disk.now) (shown g c.serve_open.new.source c.serve_open.new.sink c.serve_open.new.disk)
    (inr (inr (led g (goal.at.returns-clause-kept g c).After-serve_open)))

pub returns-clause-found : goal.returns-clause-found
returns-clause-found g c = c.serve_open.ensures.found c.args.disk.now c.in-Ok-open_store.ensures.ok.0

pub returns-clause-cause : goal.returns-clause-cause
returns-clause-cause g c =
    caused_after c.serve_open.result (shown g c.args.source.now c.args.sink.now c.args.disk.now) (shown g c.args.source.now c.send_journal.new.sink c.open_store.new.disk)
    (shown g c.serve_open.new.source c.serve_open.new.sink c.serve_open.new.disk) refl c.in-Ok-send_journal.ensures.cause.ok c.in-Ok-open_store.ensures.ok.0.calm c.serve_open.ensures.cause

pub returns-clause-same : goal.returns-clause-same
returns-clause-same g c = λ early. absurd (c.serve_open.ensures.end c.args.disk.now c.in-Ok-open_store.ensures.ok.0 early)
