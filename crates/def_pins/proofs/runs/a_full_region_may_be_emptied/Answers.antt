use Rattle.std.proofs.Common.{inl, inr, refl, arith}
use Rattle.def_pins.proofs.runs.a_full_region_may_be_emptied.Goals as goal

pub returns : goal.returns
returns c = record {
  some = (inl (omega arith, refl), inl (omega arith, refl), inl (omega arith, refl));
  full = (inl (omega arith, refl), inr (omega arith, refl), inr (omega arith, refl));
  below = λ n p. elim p [ inl more ↦ more.1 | inr anew ↦ absurd (omega (arith, anew.0)) ];
  last = λ n p. elim p [ inl more ↦ absurd (omega (arith, more.0)) | inr anew ↦ omega (arith, anew.1) ];
  none = (
    λ p. elim p [ inl more ↦ absurd (omega (arith, more.1)) | inr anew ↦ absurd (omega (arith, anew.1)) ],
    λ p. elim p [ inl more ↦ absurd (omega (arith, more.1)) | inr anew ↦ absurd (omega (arith, anew.1)) ],
    λ p. elim p [ inl more ↦ absurd (omega (arith, more.0)) | inr anew ↦ absurd (omega (arith, anew.1)) ],
  );
}
