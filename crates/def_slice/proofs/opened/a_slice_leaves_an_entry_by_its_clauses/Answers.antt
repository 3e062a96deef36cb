use Rattle.def_slice.proofs.DoneLemmas.{leaves_entry}
use Rattle.def_slice.proofs.opened.a_slice_leaves_an_entry_by_its_clauses.Goals as goal

pub returns : goal.returns
returns g c = λ old new. leaves_entry _ _
