use Rattle.def_slice.proofs.LastLemmas.{done_leaves, done_paid}
use Rattle.def_slice.proofs.ending.a_last_slice_may_be_published.Goals as goal

pub returns : goal.returns
returns c = record { says = done_leaves; paid = done_paid }
