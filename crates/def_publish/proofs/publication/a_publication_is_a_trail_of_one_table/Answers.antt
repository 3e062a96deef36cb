use Rattle.def_publish.proofs.PublishLemmas.{unlaid_trail, whole_trail}
use Rattle.def_publish.proofs.publication.a_publication_is_a_trail_of_one_table.Goals as goal

pub returns : goal.returns
returns g c = record {
  laying = λ old mid lay x y free stands are wrote p. unlaid_trail _ _ x y free stands are wrote p _;
  trail = λ old mid lay end x y free stands are wrote p lays laid. whole_trail _ _ x y free stands are wrote p _ lays laid _;
}
