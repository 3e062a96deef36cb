use Rattle.def_publish.proofs.ComputedLemmas.{computed_succeed, computed_lie}
use Rattle.def_publish.proofs.next.the_next_contents_succeed.Goals as goal

pub returns : goal.returns
returns c = record {
  ok = λ f g c' old new made taken kept s others m space has says. computed_succeed f g old new made taken kept m s others space c' has says;
  found = λ f g c' old new made taken kept s others m space has arrays. computed_lie f g old new made taken kept m s others space c' has arrays;
}
