use Rattle.std.proofs.Common.{refl}
use Rattle.def_texts.proofs.TextLemmas.{sparsest_is_first}
use Rattle.def_texts.proofs.texts.sparsest_is_least.Goals as goal

pub returns : goal.returns
returns c = record { none = refl; ok = sparsest_is_first }
