use Rattle.def_check.proofs.AgreeLemmas.{told_by_weights}
use Rattle.def_check.proofs.weights.agreement_is_told_by_weights.Goals as goal

pub returns : goal.returns
returns c = λ parents others entries v tree one two. told_by_weights parents tree others entries one two v
