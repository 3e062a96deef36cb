-- What a turn says of numbers.
use Rattle.std.proofs.Common.{◌≡◌, ◌<◌, ℕ, true, false, eqb, refl, sym, ap, ◌∙◌, arith, inl, inr}
use Rattle.std.proofs.lemmas.Bool.{cases_lt, lt-ltb, le-ltb}
use Rattle.std.proofs.lemmas.Bool.Decides.{nat_tests}
use Rattle.strat_follow.specs.declared.turns.Turn.TheVariants as turn
use Rattle.strat_follow.specs.Turns.{turn_of}

same_take : (n : ℕ) → turn_of n n ≡ turn.Take
same_take n = let same : eqb n n ≡ true = grind (arith, nat_tests) in rw same refl

pub less_old : (next n : ℕ) → n < next → turn_of next n ≡ turn.Old
less_old next n less = let other : eqb n next ≡ false = grind (arith, nat_tests) in rw (other, lt-ltb n next less) refl

pub more_gap : (next n : ℕ) → next < n → turn_of next n ≡ turn.Gap
more_gap next n more = let other : eqb n next ≡ false = grind (arith, nat_tests) in rw (other, le-ltb n next (omega (arith, more))) refl

-- which of three cases numbers are
pub data Order (next n : ℕ) : Type 0 where
  Same : n ≡ next → Order next n
  Less : n < next → Order next n
  More : next < n → Order next n

order : (next n : ℕ) → Order next n
order next n = elim (cases_lt n next) [
  | inl less ↦ Less less
  | inr le ↦ elim (cases_lt next n) [ inl more ↦ More more | inr ge ↦ Same (omega (arith, le, ge)) ]
]

turn_same : (next n : ℕ) → n ≡ next → turn_of next n ≡ turn.Take
turn_same next n same = ap (λ (m : ℕ). turn_of m n) (sym same) ∙ same_take n

pub take_is : (next n : ℕ) → turn_of next n ≡ turn.Take → n ≡ next
take_is next n is = go (order next n)
  where
    go : Order next n → n ≡ next
    go (Same same) = same
    go (Less less) = absurd (let f : turn.Old ≡ turn.Take = sym (less_old next n less) ∙ is in cc)
    go (More more) = absurd (let f : turn.Gap ≡ turn.Take = sym (more_gap next n more) ∙ is in cc)

pub old_is : (next n : ℕ) → turn_of next n ≡ turn.Old → n < next
old_is next n is = go (order next n)
  where
    go : Order next n → n < next
    go (Less less) = less
    go (Same same) = absurd (let f : turn.Take ≡ turn.Old = sym (turn_same next n same) ∙ is in cc)
    go (More more) = absurd (let f : turn.Gap ≡ turn.Old = sym (more_gap next n more) ∙ is in cc)

pub gap_is : (next n : ℕ) → turn_of next n ≡ turn.Gap → next < n
gap_is next n is = go (order next n)
  where
    go : Order next n → next < n
    go (More more) = more
    go (Same same) = absurd (let f : turn.Take ≡ turn.Gap = sym (turn_same next n same) ∙ is in cc)
    go (Less less) = absurd (let f : turn.Old ≡ turn.Gap = sym (less_old next n less) ∙ is in cc)
