use Rattle.def_promote.proofs.UnionLemmas.{one_union}
use Rattle.def_promote.proofs.merging.a_union_is_unique.Goals as goal

pub returns : goal.returns
returns c = λ others entries same one two. one_union others entries same one two
