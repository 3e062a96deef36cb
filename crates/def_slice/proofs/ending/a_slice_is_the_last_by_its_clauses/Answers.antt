use Rattle.def_slice.proofs.DoneLemmas.{slices_last}
use Rattle.def_slice.proofs.ending.a_slice_is_the_last_by_its_clauses.Goals as goal

pub returns : goal.returns
returns g c = λ old new f h x fill sealed levels others o q inputs told reads sound p lent now same does.
    slices_last _ _ f x fill sealed levels others o q o.space inputs told reads sound p lent h now same does
