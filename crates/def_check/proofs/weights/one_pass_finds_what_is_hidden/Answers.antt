use Rattle.def_check.proofs.HidingLemmas.{hidden_is_lost}
use Rattle.def_check.proofs.weights.one_pass_finds_what_is_hidden.Goals as goal

pub returns : goal.returns
returns c = λ parents versions v p tree down some. hidden_is_lost parents tree v p some versions down
