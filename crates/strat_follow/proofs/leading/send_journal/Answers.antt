use Rattle.std.proofs.Common.{◌≡◌, ◌+◌, ◌-◌, ◌∙◌, ℕ, List, length, take, drop, sym, ap, arith, length-append, take-append-drop}
use Rattle.std.specs.List.{list_all}
use Rattle.strat_base.specs.Change.{Change, is_lawful}
use Rattle.strat_follow.proofs.FrameLemmas.{on_err}
use Rattle.strat_follow.proofs.WalkLemmas.{journal_cut, journal_cut_behind, journal_sent, lawful_both}
use Rattle.strat_follow.proofs.leading.send_journal.Given.{Over}
use Rattle.strat_follow.proofs.leading.send_journal.Goals.{After-send_records}
use Rattle.strat_follow.proofs.leading.send_journal.Goals as goal

-- the changes of the journal are those that came since the last checkpoint
begins : (g : Over) (c : After-send_records g)
    → c.changes.result - (c.journal_counts-active.result.0 + c.journal_counts-active.result.1) ≡ c.args.store.now.chained.manifest.changes
begins g c =
    let s = c.args.store.now in
    omega (
      arith,
      c.changes.ensures.ok,
      c.requires.kept.memory.changes,
      c.journal_counts-active.ensures.ok.0,
      c.journal_counts-active.ensures.ok.1,
      length-append (take s.log.mem s.log.list) (drop s.log.mem s.log.list),
      ap length (take-append-drop s.log.mem s.log.list),
    )

pub returns-clause-ok : goal.returns-clause-ok
returns-clause-ok g c =
    let s = c.args.store.now in
    let both = lawful_both s.log.list s.log.mem 0 (g.K.Sink.held c.args.sink.now) (g.K.Sink.held c.args.sink.now) (g.K.Sink.held c.args.sink.now) c.requires.kept.log.lawful in
    journal_sent s.log.list s.log.mem (c.changes.result - (c.journal_counts-active.result.0 + c.journal_counts-active.result.1)) c.journal_counts-active.result.0 s.chained.manifest.changes
    (begins g (goal.at.returns-clause-ok g c).After-send_records) c.journal_counts-active.ensures.ok.0 (g.K.Sink.held c.args.sink.now) (g.K.Sink.held c.send_records.new.sink) (g.K.Sink.held c.send_records-2.new.sink)
    (c.in_ok-send_records.ensures.ok (take s.log.mem s.log.list) (record { text = c.journal_records.ensures.ok.0; number = sym c.journal_counts-active.ensures.ok.0; lawful = both.0 }))
    (c.in_ok-send_records-2.ensures.ok (drop s.log.mem s.log.list) (record { text = c.journal_records.ensures.ok.1; number = sym c.journal_counts-active.ensures.ok.1; lawful = both.1 }))

pub returns-in_err-send_records-clause-err : goal.returns-in_err-send_records-clause-err
returns-in_err-send_records-clause-err g c =
    let s = c.args.store.now in
    let both = lawful_both s.log.list s.log.mem 0 (g.K.Sink.held c.args.sink.now) (g.K.Sink.held c.args.sink.now) (g.K.Sink.held c.args.sink.now) c.requires.kept.log.lawful in
    on_err _
    (journal_cut s.log.list s.log.mem (c.changes.result - (c.journal_counts-active.result.0 + c.journal_counts-active.result.1)) c.journal_counts-active.result.0 s.chained.manifest.changes
    (begins g (goal.at.returns-in_err-send_records-clause-err g c).After-send_records) c.journal_counts-active.ensures.ok.0 (g.K.Sink.held c.args.sink.now) (g.K.Sink.held c.send_records.new.sink) (g.K.Sink.held c.send_records.new.sink)
    (c.in_err-send_records.ensures.err (take s.log.mem s.log.list) (record { text = c.journal_records.ensures.ok.0; number = sym c.journal_counts-active.ensures.ok.0; lawful = both.0 })))

pub returns-in_err-send_records-2-clause-err : goal.returns-in_err-send_records-2-clause-err
returns-in_err-send_records-2-clause-err g c =
    let s = c.args.store.now in
    let both = lawful_both s.log.list s.log.mem 0 (g.K.Sink.held c.args.sink.now) (g.K.Sink.held c.args.sink.now) (g.K.Sink.held c.args.sink.now) c.requires.kept.log.lawful in
    on_err _
    (journal_cut_behind s.log.list s.log.mem (c.changes.result - (c.journal_counts-active.result.0 + c.journal_counts-active.result.1)) c.journal_counts-active.result.0 s.chained.manifest.changes
    (begins g (goal.at.returns-in_err-send_records-2-clause-err g c).After-send_records) c.journal_counts-active.ensures.ok.0 (g.K.Sink.held c.args.sink.now) (g.K.Sink.held c.send_records.new.sink) (g.K.Sink.held c.send_records-2.new.sink)
    (c.in_ok-send_records.ensures.ok (take s.log.mem s.log.list) (record { text = c.journal_records.ensures.ok.0; number = sym c.journal_counts-active.ensures.ok.0; lawful = both.0 }))
    (c.in_err-send_records-2.ensures.err (drop s.log.mem s.log.list) (record { text = c.journal_records.ensures.ok.1; number = sym c.journal_counts-active.ensures.ok.1; lawful = both.1 })))
