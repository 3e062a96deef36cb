use Rattle.std.proofs.Common.{inl, inr}
use Rattle.castle.proofs.copies.a_copying_run_answers_each_body.Goals as goal

pub returns-clause-ok : goal.returns-clause-ok
returns-clause-ok g c = λ path status x y d e ran. (
  ran.0,
  ran.1,
  elim ran.2.outcome [
    | inl gave ↦ inl gave
    | inr served ↦ inr (served.sitting, served.is, served.took, served.sends)
  ],
)

pub returns-clause-table : goal.returns-clause-table
returns-clause-table g c = λ path status x y d e f t ran exposed shows. (
  ran.0,
  ran.1,
  elim ran.2.outcome [
    | inl gave ↦ inl gave
    | inr served ↦ inr (served.sitting, served.is, served.took, served.sends, served.follows f t exposed shows)
  ],
)

pub returns-clause-sends : goal.returns-clause-sends
returns-clause-sends g c = λ path status x y d e ran. (
  ran.0,
  ran.1,
  elim ran.2.outcome [
    | inl gave ↦ inl gave
    | inr (inl stops) ↦ inr (inl stops)
    | inr (inr on) ↦ inr (inr (on.served.sitting, on.held, _, on.sent, on.served.is, on.served.took, on.served.sends))
  ],
)
