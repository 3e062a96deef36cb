-- Blocks counted in extents.
use Rattle.std.proofs.Common.{◌≡◌, ℕ, zero, suc, ◌+◌, ◌<◌, ◌≤◌, List, [], ◌∷◌, ◌++◌, get_or, length, refl, ap, ◌∙◌, arith}
use Rattle.std.specs.List.{insert, remove}
use Rattle.std.proofs.lemmas.Bool.Decides.{nat_tests}
use Rattle.strat_base.specs.declared.descriptors.Extent.{Extent}
use Rattle.strat_extent.specs.Blocks.{inside, times_in, total_len}

pub inside_in : (low high b : ℕ) → low ≤ b → b < high → inside low high b ≡ 1
inside_in low high b p q = grind (arith, nat_tests)

pub inside_below : (low high b : ℕ) → b < low → inside low high b ≡ 0
inside_below low high b p = grind (arith, nat_tests)

pub inside_above : (low high b : ℕ) → high ≤ b → inside low high b ≡ 0
inside_above low high b p = grind (arith, nat_tests)

pub inside_le : (low high b : ℕ) → inside low high b ≤ 1
inside_le low high b = grind (arith, nat_tests)

-- a number that a range leaves out and that is not below it is above it
pub inside_past : (low high b : ℕ) → inside low high b ≡ 0 → low ≤ b → high ≤ b
inside_past low high b e p = grind (arith, nat_tests)

-- a number that a range has
pub inside_bounds : (low high b : ℕ) → 0 < inside low high b → (low ≤ b) × (b < high)
inside_bounds low high b p = (grind (arith, nat_tests), grind (arith, nat_tests))

pub inside_same : (low low2 high high2 b : ℕ) → low ≡ low2 → high ≡ high2 → inside low high b ≡ inside low2 high2 b
inside_same low low2 high high2 b e f = rw (e, f) refl

-- two runs that touch are one
pub inside_join : (low mid high b : ℕ) → low ≤ mid → mid ≤ high
    → inside low high b ≡ inside low mid b + inside mid high b
inside_join low mid high b p q = grind (arith, nat_tests)

pub times_insert : (rs : List Extent) (i : ℕ) (x : Extent) (b : ℕ) → times_in (insert rs i x) b ≡ times_in (x ∷ rs) b
times_insert [] zero x b = refl
times_insert [] (suc i) x b = refl
times_insert (r ∷ rs) zero x b = refl
times_insert (r ∷ rs) (suc i) x b = omega (arith, times_insert rs i x b)

pub total_insert : (rs : List Extent) (i : ℕ) (x : Extent) → total_len (insert rs i x) ≡ total_len (x ∷ rs)
total_insert [] zero x = refl
total_insert [] (suc i) x = refl
total_insert (r ∷ rs) zero x = refl
total_insert (r ∷ rs) (suc i) x = omega (arith, total_insert rs i x)

times_out : (rs : List Extent) (i : ℕ) (d : Extent) (b : ℕ) → i < length rs → times_in (get_or rs i d ∷ remove rs i) b ≡ times_in rs b
times_out [] i d b lt = absurd (omega arith)
times_out (r ∷ rs) zero d b lt = refl
times_out (r ∷ rs) (suc i) d b lt = omega (arith, times_out rs i d b (omega arith))

total_out : (rs : List Extent) (i : ℕ) (d : Extent) → i < length rs → total_len (get_or rs i d ∷ remove rs i) ≡ total_len rs
total_out [] i d lt = absurd (omega arith)
total_out (r ∷ rs) zero d lt = refl
total_out (r ∷ rs) (suc i) d lt = omega (arith, total_out rs i d (omega arith))

pub times_remove : (rs : List Extent) (i : ℕ) (x : Extent) (b : ℕ) → i < length rs → x ≡ get_or rs i x
    → times_in (x ∷ remove rs i) b ≡ times_in rs b
times_remove rs i x b lt e = ap (λ (z : Extent). times_in (z ∷ remove rs i) b) e ∙ times_out rs i x b lt

pub total_remove : (rs : List Extent) (i : ℕ) (x : Extent) → i < length rs → x ≡ get_or rs i x
    → total_len (x ∷ remove rs i) ≡ total_len rs
total_remove rs i x lt e = ap (λ (z : Extent). total_len (z ∷ remove rs i)) e ∙ total_out rs i x lt

pub times_append : (xs ys : List Extent) (b : ℕ) → times_in (xs ++ ys) b ≡ times_in xs b + times_in ys b
times_append [] ys b = omega arith
times_append (x ∷ xs) ys b = omega (arith, times_append xs ys b)

pub total_append : (xs ys : List Extent) → total_len (xs ++ ys) ≡ total_len xs + total_len ys
total_append [] ys = omega arith
total_append (x ∷ xs) ys = omega (arith, total_append xs ys)
