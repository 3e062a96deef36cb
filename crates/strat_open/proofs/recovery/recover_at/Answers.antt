use Rattle.std.proofs.Common.{◌∙◌}
use Rattle.std.proofs.lemmas.Result.{err_from_is_err_and}
use Rattle.def_crash.proofs.MomentLemmas.{reads_trans}
use Rattle.strat_gate.specs.SuperView.{super_of}
use Rattle.strat_journal.proofs.ReadLemmas.{same_err}
use Rattle.strat_memory.specs.Admitting.{chained_of}
use Rattle.strat_memory.proofs.NumbersLemmas.{kept_without}
use Rattle.strat_open.proofs.RecoverLemmas.{manifest_recovered, head_recovered_from, head_damaged_journal, store_recovered_from}
use Rattle.strat_open.proofs.recovery.recover_at.Goals as goal

pub returns-in_err-journal-clause-damaged : goal.returns-in_err-journal-clause-damaged
returns-in_err-journal-clause-damaged g c = λ block damaged f exposed.
    let p = err_from_is_err_and c.from_residual-in_err-journal.result c.from_residual-in_err-journal.ensures.1 in
    head_damaged_journal f (super_of c.args.sb) (chained_of c.in_ok-published.published).manifest block
    (manifest_recovered f (super_of c.args.sb) (chained_of c.in_ok-published.published) (c.in_ok-published.ensures.found f exposed) c.in_ok-published.ensures.kept.belonging)
    (c.in_err-journal.ensures.damaged block (same_err c.from_residual-in_err-journal.result p.0 _ _ p.1 p.2 damaged) f (c.read_published.ensures.same.same ∙ exposed))

pub returns-in_err-journal-clause-same : goal.returns-in_err-journal-clause-same
returns-in_err-journal-clause-same g c = reads_trans c.read_published.ensures.same c.read_journal.ensures.same

pub returns-clause-found : goal.returns-clause-found
returns-clause-found g c = λ f exposed newest.
    let read = c.in_ok-journal.ensures.found f (c.read_published.ensures.same.same ∙ exposed) in
    let manifest = manifest_recovered f (super_of c.args.sb) (chained_of c.in_ok-published.published) (c.in_ok-published.ensures.found f exposed) c.in_ok-published.ensures.kept.belonging in
    record {
      newest = newest;
      chain = c.in_ok-published.ensures.found f exposed;
      head = store_recovered_from f (super_of c.args.sb) c.args.slot _ newest
          (head_recovered_from f (super_of c.args.sb) (chained_of c.in_ok-published.published).manifest c.in_ok-journal.journal.list manifest read.0);
      stale = read.1;
    }

pub returns-clause-kept : goal.returns-clause-kept
returns-clause-kept g c = λ cap. record {
  slot = c.requires.fits.0;
  lawful = c.requires.fits.1;
  spelled = c.in_ok-published.ensures.kept.spelled;
  belonging = c.in_ok-published.ensures.kept.belonging;
  log = c.in_ok-journal.ensures.kept;
  accepted = c.in_ok-journal.ensures.fits;
  memory = c.in_ok-journal.ensures.ok;
  placed = c.in_ok-published.ensures.kept.placed;
  kept = kept_without (super_of c.args.sb) (chained_of c.in_ok-published.published) c.in_ok-published.published.levels c.in_ok-published.ensures.kept.placed
      c.in_ok-published.ensures.kept.spelled c.in_ok-published.ensures.kept.belonging c.in_ok-journal.memory c.in_ok-journal.ensures.cursors;
  going = tt;
}

pub returns-clause-same : goal.returns-clause-same
returns-clause-same g c = reads_trans c.read_published.ensures.same c.read_journal.ensures.same
