use Rattle.def_publish.proofs.ComputedLemmas.{follows_next, follows_again}
use Rattle.def_publish.proofs.next.contents_that_follow_a_change_may_be_next.Goals as goal

pub returns : goal.returns
returns g = record {
  ok = follows_next;
  twice = λ f g c d old mid new made more taken kept from rest m n some. follows_again f g old mid made taken kept m c d new more from rest n some;
}
