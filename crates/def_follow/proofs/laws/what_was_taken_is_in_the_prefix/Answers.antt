use Rattle.def_follow.proofs.ReceiptLemmas.{taken_in_front}
use Rattle.def_follow.proofs.laws.what_was_taken_is_in_the_prefix.Goals as goal

pub returns : goal.returns
returns c = record {
  taken = taken_in_front;
  refused = λ changes_max versions_max log after x cause kept e. kept.free cause e;
}
