use Rattle.std.proofs.Common.{inl, inr}
use Rattle.strat_serve.proofs.laws.a_response_fits_its_body.Goals as goal

pub returns-clause-tag : goal.returns-clause-tag
returns-clause-tag c = λ body r is. elim is [
  | inl refused ↦ inl (refused.cause, refused.refused, refused.answer)
  | inr told ↦ inr (told.request, told.spelled)
]

pub returns-clause-fault : goal.returns-clause-fault
returns-clause-fault c = λ body r told fault. (told.request, told.spelled, told.reached fault)

pub returns-clause-short : goal.returns-clause-short
returns-clause-short c = λ body r told short. (told.request, told.spelled, told.short short)

pub returns-clause-pairs : goal.returns-clause-pairs
returns-clause-pairs c = λ body r told. (told.request, told.spelled, told.few)
