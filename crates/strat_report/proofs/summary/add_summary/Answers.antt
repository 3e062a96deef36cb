use Rattle.std.proofs.Common.{List, sym, ap, ◌∙◌}
use Rattle.std.specs.List.{flat_map}
use Rattle.strat_base.specs.declared.descriptors.LevelDesc.{LevelDesc}
use Rattle.def_bytes.specs.Manifest.{Manifest}
use Rattle.def_recovery.specs.Head.{descriptors}
use Rattle.def_texts.specs.Texts.{sparsest}
use Rattle.strat_report.specs.Densities.{least_density}
use Rattle.strat_report.proofs.LineLemmas.{summary_added}
use Rattle.strat_report.proofs.summary.add_summary.Goals as goal

pub returns : goal.returns
returns c = record {
  ok = summary_added c.args.store.now c.args.seed c.args.count _ _ _ _ _ c.in_ok-add_workload.ensures.ok c.in_ok-add_counts.ensures.ok c.in_ok-add_stored.ensures.ok
      (c.in_ok-add_density.ensures.ok (sparsest (descriptors c.args.store.now.manifest))
      (ap (λ (ls : List LevelDesc). least_density (flat_map (λ level. level.arrays) ls)) (sym (c.as_slice.ensures.ok ∙ ap (λ (m : Manifest). m.levels) c.manifest.ensures.ok)) ∙ c.least_in.ensures.ok));
}
