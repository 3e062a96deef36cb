use Rattle.def_check.proofs.UnnamedLemmas.{three_unnamed}
use Rattle.def_check.proofs.checking.three_rules_are_never_named.Goals as goal

pub returns : goal.returns
returns c = λ c b later e. three_unnamed c b later e
