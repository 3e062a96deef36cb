use Rattle.def_follow.proofs.ReceiptLemmas.{malformed_alone, old_alone, gap_alone, next_answered, malformed_given, passed_given, next_given, fault_parts}
use Rattle.def_follow.proofs.laws.a_body_is_answered_by_its_number.Goals as goal

pub returns : goal.returns
returns c = record {
  malformed = malformed_alone;
  old = old_alone;
  gap = gap_alone;
  next = next_answered;
  refused = malformed_given;
  passed = passed_given;
  given = next_given;
  fault = fault_parts;
}
