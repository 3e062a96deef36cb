use Rattle.std.proofs.Common.{◌≡◌, ◌≤◌, refl, arith, ℕ, zero, suc, [], ◌∷◌}
use Rattle.def_crash.specs.Trail.{At}
use Rattle.def_pins.proofs.crashes.a_trail_has_left_what_lies_before_its_last_mark.Goals as goal

no_place : (i : ℕ) → 1 ≤ i → At {T = ℕ} (0 ∷ 1 ∷ []) i (λ x. 0 ≡ x) → ⊥
no_place zero le at = omega (arith, le)
no_place (suc zero) le at = let z : 0 ≡ 1 = at in omega (arith, z)
no_place (suc (suc i)) le at = at

pub returns : goal.returns
returns c = λ t. let e = t.each 1 0 (λ i. 0) (omega arith) t.last (omega arith) refl in no_place e.0 e.1 e.2
