use Rattle.def_promote.proofs.SealedLemmas.{replayed}
use Rattle.def_promote.proofs.sealing.the_same_changes_keep_states_the_same.Goals as goal

pub returns : goal.returns
returns c = λ rest a b one two same accepts left right. replayed rest a b one two same accepts left right
