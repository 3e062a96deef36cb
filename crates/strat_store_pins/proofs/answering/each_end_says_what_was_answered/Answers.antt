use Rattle.std.proofs.Common.{inl, inr}
use Rattle.strat_store_pins.proofs.answering.each_end_says_what_was_answered.Goals as goal

pub returns : goal.returns
returns c = record {
  all = λ run taken rest sent more is. (is.unbroken, is.splits, is.replies);
  none = λ run taken sent is. (is.none, is.taken_none, is.sent_none);
  fault = λ run taken sent until. (until.splits, until.fault);
  sink = λ most run taken sent until. (until.splits, until.next);
  next = λ run bodies rest more next some. elim next [
    | inl none ↦ absurd (some none)
    | inr long ↦ long
  ];
  end = λ budget run taken sent left. ((λ until. until), (λ until. until), (λ until. until), (λ until. until), (λ until. until), (λ until. until));
}
