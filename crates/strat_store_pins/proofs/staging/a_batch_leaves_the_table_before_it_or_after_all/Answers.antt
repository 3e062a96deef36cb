use Rattle.std.proofs.Common.{◌≤◌, ◌⊎◌, ℕ, zero, suc, inl, inr, [], ◌∷◌, arith}
use Rattle.def_crash.specs.Trail.{At}
use Rattle.strat_store_pins.proofs.staging.a_batch_leaves_the_table_before_it_or_after_all.Goals as goal

-- of two the second, or either
last_of : {T : Type 0} (P : T → Type 0) (x y : T) (i : ℕ) → 1 ≤ i → At (x ∷ y ∷ []) i P → P y
last_of P x y zero late here = absurd (omega (arith, late))
last_of P x y (suc zero) late here = here
last_of P x y (suc (suc i)) late here = absurd here

any_of : {T : Type 0} (P : T → Type 0) (x y : T) (i : ℕ) → At (x ∷ y ∷ []) i P → P x ⊎ P y
any_of P x y zero here = inl here
any_of P x y (suc zero) here = inr here
any_of P x y (suc (suc i)) here = absurd here

pub returns : goal.returns
returns g c = record {
  ok = λ d e x batch image follows left.
      let one = follows.each 1 (g.D.Viewed.view e).moment image (omega arith) follows.last (omega arith) left in
      last_of _ _ _ one.0 one.1 one.2;
  err = λ d e x batch image follows since.
      let one = follows.each 0 since.at image (omega arith) (omega (arith, follows.first, since.from)) since.till since.left in
      any_of _ _ _ one.0 one.2;
}
