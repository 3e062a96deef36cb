use Rattle.std.proofs.Common.{refl}
use Rattle.std.specs.Fmt.{digits}
use Rattle.def_texts.proofs.texts.text_of_a_new_store.Goals as goal

pub returns : goal.returns
unfolding digits
returns c = refl
