use Rattle.std.proofs.Common.{sym, ◌∙◌, arith}
use Rattle.strat_manifest.proofs.LawfulLemmas.{tag_passes}
use Rattle.strat_manifest.proofs.lawful.are_lawful_versions.Goals as goal

pub returns-then-can_be_counted : goal.returns-then-can_be_counted
returns-then-can_be_counted c = record {
  ok =
      tag_passes c.args.xs.now c.rise.result (sym c.can_be_counted.ensures.ok ∙ c.if-can_be_counted.true)
      (λ k. let f = c.type_inv.xs k in omega arith) c.rise.ensures.ok;
}
