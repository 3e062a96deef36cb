use Rattle.def_publish.proofs.GateLemmas.{each_keeps}
use Rattle.def_publish.proofs.opening.each_image_keeps_its_contents.Goals as goal

pub returns : goal.returns
returns g c = λ old new. each_keeps _ _
