use Rattle.strat_promote.specs.Promotions.{extents_taken}
use Rattle.def_slice.proofs.OpenedLemmas.{listed_used, taken_used, others_used}
use Rattle.def_slice.proofs.opened.the_blocks_of_an_open_promotion_are_used.Goals as goal

pub returns : goal.returns
returns c = record {
  read = λ f x fill sealed levels others o p. listed_used f f x fill sealed levels others o p;
  taken = λ f x fill sealed levels others o p. taken_used o.space x (extents_taken o.promotion) others p.space_is;
  others = λ f x fill sealed levels others o p. others_used o.space x (extents_taken o.promotion) others p.space_is;
}
