use Rattle.std.proofs.Common.{◌≡◌, List, length, map, arith, true, Ok, sym, ap, subst, ◌∙◌}
use Rattle.std.specs.List.{list_all}
use Rattle.strat_base.specs.Change.{Change, is_lawful}
use Rattle.strat_gate.specs.SuperView.{super_of}
use Rattle.strat_journal.specs.Records.{logged_of}
use Rattle.def_recovery.specs.Opened.{parents_in}
use Rattle.strat_memory.specs.Admitting.{chained_of}
use Rattle.strat_open.proofs.RecoverLemmas.{journal_recovered, accepted_in_turn}
use Rattle.strat_open.proofs.recovery.read_journal.Goals as goal

pub returns-clause-found : goal.returns-clause-found
returns-clause-found g c = λ f exposed.
    let read = c.in_ok-journal.ensures.found f exposed in
    let accepted = rw c.deref.ensures.value at c.in_ok-memory.ensures.found in (
      journal_recovered f (super_of c.args.sb.now) (chained_of c.args.published.now).manifest (map logged_of c.in_ok-journal.logged.items) (Ok c.in_ok-journal.journal.list) read.records
          (accepted ∙ ap (λ (js : List Change). Ok js) (sym c.in_ok-journal.ensures.ok.list_is)),
      read.stale,
    )

pub returns-clause-kept : goal.returns-clause-kept
returns-clause-kept g c =
    let own = rw c.deref.ensures.value at c.in_ok-memory.ensures.fits in
    let is = c.in_ok-journal.ensures.ok in
    record {
      mem = is.mem_is;
      active = is.active_is;
      batch = is.batch_is;
      few = is.few;
      lawful = subst (λ (xs : List Change). list_all is_lawful xs ≡ true) (sym is.list_is) own;
    }

pub returns-clause-fits : goal.returns-clause-fits
returns-clause-fits g c =
    let accepted = rw c.deref.ensures.value at c.in_ok-memory.ensures.found in
    accepted_in_turn c.args.sb.now.changes_max c.args.sb.now.versions_max (parents_in (chained_of c.args.published.now).manifest) (chained_of c.args.published.now).manifest.marks c.args.published.now.manifest.changes (map logged_of c.in_ok-journal.logged.items)
    c.in_ok-journal.journal.list (accepted ∙ ap (λ (js : List Change). Ok js) (sym c.in_ok-journal.ensures.ok.list_is))
