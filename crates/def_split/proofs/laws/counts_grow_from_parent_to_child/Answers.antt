use Rattle.def_split.proofs.CountedLemmas.{keys_grow, keys_begun, keys_first, own_live}
use Rattle.def_split.proofs.laws.counts_grow_from_parent_to_child.Goals as goal

pub returns : goal.returns
returns c = record {
  grown = λ parents groups v p tree some. keys_grow parents tree groups v p some;
  begun = λ parents groups v p tree some. keys_begun parents tree groups v p some;
  first = λ parents groups v tree none. keys_first parents tree groups v none;
  own = λ parents groups v tree grouped. own_live parents tree groups grouped v;
}
