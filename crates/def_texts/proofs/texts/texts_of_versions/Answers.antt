use Rattle.std.proofs.Common.{refl}
use Rattle.std.specs.Fmt.{digits}
use Rattle.def_texts.proofs.texts.texts_of_versions.Goals as goal

pub returns : goal.returns
unfolding digits
returns c = record { one = refl; run = refl; both = refl }
