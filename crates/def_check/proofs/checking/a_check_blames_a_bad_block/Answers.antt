use Rattle.def_check.proofs.CheckedLemmas.{blames}
use Rattle.def_check.proofs.checking.a_check_blames_a_bad_block.Goals as goal

pub returns : goal.returns
returns c = λ c b e. blames c b e
