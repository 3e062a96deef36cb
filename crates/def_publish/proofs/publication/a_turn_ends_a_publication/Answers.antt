use Rattle.def_publish.proofs.TurnLemmas.{turned_trail, turned_contents, turned_log}
use Rattle.def_publish.proofs.publication.a_turn_ends_a_publication.Goals as goal

pub returns : goal.returns
returns g c = record {
  trail = λ old mid lay end x y log free stands are wrote p lays laid is torn time. turned_trail _ _ _ x y log p lays laid is torn time _ free stands are wrote;
  stands = λ mid lay end x y log p lays laid is torn time. turned_contents _ _ _ x y log p lays laid is torn time;
  log = turned_log;
}
