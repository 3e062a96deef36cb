use Rattle.std.proofs.Common.{inl, inr, refl, arith}
use Rattle.def_pins.proofs.runs.accepted_changes_are_journalled.Goals as goal

pub returns : goal.returns
returns c = record {
  put = λ after is. elim (is.fill refl) [ inl more ↦ more.1 | inr anew ↦ absurd (omega (arith, anew.0)) ];
  clone = λ after is. elim (is.fill refl) [ inl more ↦ more.1 | inr anew ↦ absurd (omega (arith, anew.0)) ];
  refused = λ after is. is.same refl;
  get = λ after is. is.same refl;
  table = λ mem at after request is. is.table;
}
