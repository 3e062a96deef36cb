use Rattle.def_slice.proofs.OpenedLemmas.{appended_open}
use Rattle.def_slice.proofs.opened.a_change_leaves_a_promotion_open.Goals as goal

pub returns : goal.returns
returns c = appended_open
