use Rattle.std.proofs.Common.{ℕ, inl, inr, sym, subst}
use Rattle.def_recovery.specs.Opening.{recover}
use Rattle.castle.specs.Outcomes.{EndsAsFound, EndsAsInput}
use Rattle.castle.proofs.copies.leading_and_following_runs_end_for_a_cause.Goals as goal

pub returns-clause-cause : goal.returns-clause-cause
returns-clause-cause g c = λ path status x y d e ran. elim ran [
  | inl led ↦ (led.0, led.1, led.2.cause, led.2.refuses)
  | inr followed ↦ (followed.0, followed.1, followed.2.cause, followed.2.refuses)
]

pub returns-clause-complete : goal.returns-clause-complete
returns-clause-complete g c = λ path status x y d e f ran calm exposed. elim ran [
  | inl led ↦ subst (λ (n : ℕ). EndsAsFound (recover f) n) (sym led.1) (led.2.complete calm f exposed)
  | inr followed ↦ subst (λ (n : ℕ). EndsAsFound (recover f) n) (sym followed.1) (followed.2.complete calm f exposed)
]

pub returns-clause-end : goal.returns-clause-end
returns-clause-end g c = λ path status x y d e f t ran calm exposed shows. elim ran [
  | inl led ↦ subst EndsAsInput (sym led.1) (led.2.sound calm f t exposed shows)
  | inr followed ↦ subst EndsAsInput (sym followed.1) (followed.2.sound calm f t exposed shows)
]

pub returns-clause-same : goal.returns-clause-same
returns-clause-same g c = λ path d status a b i j m n leaves early. elim leaves [ inl lead ↦ lead early | inr follow ↦ follow early ]
