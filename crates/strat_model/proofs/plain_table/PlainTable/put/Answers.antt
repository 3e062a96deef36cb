use Rattle.std.proofs.Common.{sym, ap, ◌∙◌, inl}
use Rattle.strat_model.specs.Step.{Outcome}
use Rattle.strat_model.proofs.PlainLemmas.{update_refused}
use Rattle.strat_model.proofs.plain_table.PlainTable.put.Goals as goal

pub returns-in-Some : goal.returns-in-Some
returns-in-Some c =
    let refused = update_refused c.args.self.now c.args.version _ c.in-Some.refusal (sym c.update_refusal.ensures.ok ∙ c.in-Some.is) in
    record { ok = inl record { answer = ap (λ (o : Outcome). o.answer) (sym refused); table = ap (λ (o : Outcome). o.table) (sym refused) } }
