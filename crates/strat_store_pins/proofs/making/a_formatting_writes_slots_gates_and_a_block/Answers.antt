use Rattle.std.proofs.Common.{◌≢◌, ◌≤◌, ◌<◌, ℕ, inl, inr, refl, arith}
use Rattle.strat_open.specs.Format.{IsFormatted}
use Rattle.strat_store_pins.proofs.making.a_formatting_writes_slots_gates_and_a_block.Goals as goal

-- a byte that is formatted lies in one of these places
places : (i : ℕ) → IsFormatted 4 i → (8192 < i → i ≢ 16384 → i < 24576 → ⊥) × (i ≢ 8192 → i ≢ 16384 → 28672 ≤ i → ⊥)
places i (inl low) = ((λ above other below. omega (arith, low, above)), (λ first second above. omega (arith, low, above)))
places i (inr (inl first)) = ((λ above other below. omega (arith, first, above)), (λ other second above. other first))
places i (inr (inr (inl second))) = ((λ above other below. other second), (λ first other above. other second))
places i (inr (inr (inr block))) = ((λ above other below. let le : 24576 ≤ i = block.0 in omega (arith, le, below)), (λ first second above. let less : i < 28672 = block.1 in omega (arith, less, above)))

pub returns : goal.returns
returns c = record {
  ok = (
    inl (let less : 8191 < 8192 = omega arith in less),
    inr (inl refl),
    inr (inr (inl refl)),
    inr (inr (inr ((let le : 24576 ≤ 24576 = omega arith in le), (let less : 24576 < 28672 = omega arith in less)))),
    inr (inr (inr ((let le : 24576 ≤ 28671 = omega arith in le), (let less : 28671 < 28672 = omega arith in less)))),
  );
  none = (
    (λ is. (places 8193 is).0 (omega arith) (λ e. omega (arith, e)) (omega arith)),
    (λ is. (places 16383 is).0 (omega arith) (λ e. omega (arith, e)) (omega arith)),
    (λ is. (places 16385 is).0 (omega arith) (λ e. omega (arith, e)) (omega arith)),
    (λ is. (places 24575 is).0 (omega arith) (λ e. omega (arith, e)) (omega arith)),
    (λ is. (places 28672 is).1 (λ e. omega (arith, e)) (λ e. omega (arith, e)) (omega arith)),
  );
}
