use Rattle.def_publish.proofs.PublishLemmas.{published_stands}
use Rattle.def_publish.proofs.publication.published_contents_stand.Goals as goal

pub returns : goal.returns
returns g c = λ mid lay end x y p lays laid. published_stands _ x y p _ lays laid _
