-- How many blocks a walk has still to read.
use Rattle.std.proofs.Common.{◌≡◌, ◌≤◌, ◌+◌, ◌-◌, ℕ, Bool, true, false, cond, is_some, Option, inl, inr, refl, ap, arith}
use Rattle.std.proofs.lemmas.Bool.{cases_lt}
use Rattle.strat_array.specs.declared.place.Place.{Place}
use Rattle.strat_array.specs.Kept.{Kept, held_block}
use Rattle.strat_array.specs.Steps.{blocks_ahead}

-- after a block was held, the reads and the blocks behind it are no more than those ahead before
pub held_ahead : (held : Bool) (count block r0 r1 : ℕ) → r1 ≤ r0 + 1 → (held ≡ true → r1 ≡ r0) → (count ≤ block → r1 ≡ r0) → r1 + (count - (block + 1)) ≤ r0 + cond held (count - (block + 1)) (count - block)
held_ahead true count block r0 r1 most none past = let same : r1 ≡ r0 = none refl in omega arith
held_ahead false count block r0 r1 most none past = elim (cases_lt block count) [
  | inl lt ↦ omega arith
  | inr le ↦ let same : r1 ≡ r0 = past le in omega arith
]

-- and after the next block was held
pub next_ahead : (held : Bool) (count block next before r1 r2 : ℕ) → next ≡ block + 1 → r1 + (count - (block + 1)) ≤ before → r2 ≤ r1 + 1 → (held ≡ true → r2 ≡ r1) → (count ≤ next → r2 ≡ r1) → r2 + (count - (next + 1)) ≤ before
next_ahead held count block next before r1 r2 step first most none past =
    let second = held_ahead held count next r1 r2 most none past in
    let less : cond held (count - (next + 1)) (count - next) ≤ count - next = under held in
    omega (arith, second, less)
  where
    under : (h : Bool) → cond h (count - (next + 1)) (count - next) ≤ count - next
    under true = omega arith
    under false = omega arith

-- the block that is held is not ahead
pub ahead_held : (s : Option Kept) (array count : ℕ) (place : Place) → is_some (held_block s array place.block) ≡ true → blocks_ahead s array count place ≡ count - (place.block + 1)
ahead_held s array count place held = ap (λ (b : Bool). cond b (count - (place.block + 1)) (count - place.block)) held
