use Rattle.std.proofs.Common.{ap, ◌∙◌}
use Rattle.def_bytes.specs.Manifest.{Manifest}
use Rattle.strat_report.proofs.LineLemmas.{report_added}
use Rattle.strat_report.proofs.levels.add_report.Goals as goal

pub returns : goal.returns
returns c = record {
  ok = report_added c.args.store.now c.as_slice.result.now _ _ _ _ _ (c.as_slice.ensures.ok ∙ ap (λ (m : Manifest). m.levels) c.manifest.ensures.ok)
      c.in_ok-add_store.ensures.ok c.in_ok-add_journal.ensures.ok c.in_ok-add_levels.ensures.ok c.in_ok-add_stored.ensures.ok;
}
