use Rattle.std.proofs.Common.{sym, ap, ◌∙◌}
use Rattle.strat_model.specs.Step.{Outcome}
use Rattle.strat_model.proofs.PlainLemmas.{drop_refused}
use Rattle.strat_model.proofs.plain_table.PlainTable.drop_version.Goals as goal

pub returns-in-Some : goal.returns-in-Some
returns-in-Some c =
    let refused = drop_refused c.args.self.now c.args.version c.in-Some.refusal (sym c.drop_refusal.ensures.ok ∙ c.in-Some.is) in
    record { ok = record { answer = ap (λ (o : Outcome). o.answer) (sym refused); table = ap (λ (o : Outcome). o.table) (sym refused) } }
