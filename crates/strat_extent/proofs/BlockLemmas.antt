-- Extents and the list of their blocks.
use Rattle.std.proofs.Common.{◌≡◌, ℕ, zero, suc, ◌+◌, ◌<◌, ◌≤◌, ◌==◌, ◌||◌, cond, nat_lt, Bool, true, false, if◌then◌else◌, List, [], ◌∷◌, length, refl, arith, length-append, ◌-◌, min, max, inl, inr}
use Rattle.std.specs.List.{count_by, sum_by, range_with_len}
use Rattle.std.proofs.lemmas.Bool.{cases_lt}
use Rattle.std.proofs.lemmas.Bool.Decides.{nat_tests}
use Rattle.std.proofs.lemmas.List.FromFn.{length-range_with_len}
use Rattle.std.proofs.lemmas.List.Sums.{sum_by-append, sum_by-cons}
use Rattle.strat_base.specs.declared.descriptors.Extent.{Extent}
use Rattle.def_bytes.specs.Arrays.{blocks_of}
use Rattle.strat_extent.specs.Blocks.{SpaceView, AreRuns, inside, times_in, total_len, is_used, uses, used_count}
use Rattle.strat_extent.specs.Change.{IsMarked}
use Rattle.strat_extent.proofs.ChangeLemmas.{uses_counted}
use Rattle.strat_extent.proofs.CountLemmas.{inside_in, inside_join, inside_above, inside_below}

-- a number that is another, and a range of one number
one_inside : (a b : ℕ) → inside a (a + 1) b ≡ cond (a == b) 1 0
one_inside a b = grind (arith, nat_tests)

none_inside : (low high b : ℕ) → high ≤ low → inside low high b ≡ 0
none_inside low high b p = grind (arith, nat_tests)

inside_listed : (start n b : ℕ) → inside start (start + n) b ≡ count_by (λ a. a == b) (range_with_len start n)
inside_listed start zero b = none_inside start (start + 0) b (omega arith)
inside_listed start (suc n) b =
    let split : inside start (start + 1 + n) b ≡ inside start (start + 1) b + inside (start + 1) (start + 1 + n) b
    = inside_join start (start + 1) (start + 1 + n) b (omega arith) (omega arith) in
    let same : start + suc n ≡ start + 1 + n = omega arith in
    rw same (omega (
      arith,
      split,
      one_inside start b,
      inside_listed (start + 1) n b,
      sum_by-cons (λ (a : ℕ). cond (a == b) 1 0) start (range_with_len (start + 1) n),
    ))

pub times_listed : (xs : List Extent) (b : ℕ) → times_in xs b ≡ count_by (λ a. a == b) (blocks_of xs)
times_listed [] b = refl
times_listed (x ∷ xs) b =
    omega (
      arith,
      inside_listed x.start x.len b,
      times_listed xs b,
      sum_by-append (λ (a : ℕ). cond (a == b) 1 0) (range_with_len x.start x.len) (blocks_of xs),
    )

pub total_listed : (xs : List Extent) → total_len xs ≡ length (blocks_of xs)
total_listed [] = refl
total_listed (x ∷ xs) =
    omega (arith, length-append (range_with_len x.start x.len) (blocks_of xs), length-range_with_len x.start x.len, total_listed xs)

or_of : (p q : Bool) (n : ℕ) → ◌≡◌ {A = ℕ} (if q then 1 else 0) ((if p then 1 else 0) + n) → q ≡ p || nat_lt 0 n
or_of true true n e = refl
or_of true false n e = absurd (omega (arith, e))
or_of false true n e = grind (arith, nat_tests)
or_of false false n e = grind (arith, nat_tests)

none_of : (p q : Bool) (n : ℕ) → ◌≡◌ {A = ℕ} (if q then 1 else 0) ((if p then 1 else 0) + n) → 0 < n → p ≡ false
none_of false q n e p = refl
none_of true true n e p = absurd (omega (arith, e))
none_of true false n e p = absurd (omega (arith, e))

pub marked_or : (before after : SpaceView) (xs : List Extent) → IsMarked before xs after → (b : ℕ)
    → is_used after b ≡ is_used before b || nat_lt 0 (times_in xs b)
marked_or before after xs m b = or_of (is_used before b) (is_used after b) (times_in xs b) (m.used b)

pub marked_none : (before after : SpaceView) (xs : List Extent) → IsMarked before xs after → (b : ℕ) → 0 < times_in xs b
    → is_used before b ≡ false
marked_none before after xs m b p = none_of (is_used before b) (is_used after b) (times_in xs b) (m.used b) p

pub inside_summed : (low high start n : ℕ) → low ≤ high → sum_by (λ b. inside low high b) (range_with_len start n) ≡ min high (start + n) - max low start
inside_summed low high start zero le = omega arith
inside_summed low high start (suc n) le =
    let rest : sum_by (λ b. inside low high b) (range_with_len (start + 1) n) ≡ min high (start + 1 + n) - max low (start + 1)
    = inside_summed low high (start + 1) n le in
    let cons : sum_by (λ b. inside low high b) (start ∷ range_with_len (start + 1) n) ≡ inside low high start + sum_by (λ b. inside low high b) (range_with_len (start + 1) n)
    = sum_by-cons (λ b. inside low high b) start (range_with_len (start + 1) n) in
    elim (cases_lt start low) [
      | inl under ↦ omega (arith, rest, cons, inside_below low high start under)
      | inr over ↦ elim (cases_lt start high) [
        | inl within ↦ omega (arith, rest, cons, inside_in low high start over within)
        | inr past ↦ omega (arith, rest, cons, inside_above low high start past)
      ]
    ]

pub two_summed : (f g h : ℕ → ℕ) → ((b : ℕ) → f b + g b ≡ h b) → (xs : List ℕ) → sum_by f xs + sum_by g xs ≡ sum_by h xs
two_summed f g h same [] = omega arith
two_summed f g h same (x ∷ xs) =
    omega (arith, same x, two_summed f g h same xs, sum_by-cons f x xs, sum_by-cons g x xs, sum_by-cons h x xs)

pub none_summed : (xs : List ℕ) → sum_by (λ b. 0) xs ≡ 0
none_summed [] = refl
none_summed (x ∷ xs) = omega (arith, none_summed xs, sum_by-cons (λ (b : ℕ). 0) x xs)

times_summed : (low high start n : ℕ) (rs : List Extent) → AreRuns low rs high → start ≤ low → high ≤ start + n + 1
    → sum_by (λ b. times_in rs b) (range_with_len start n) ≡ total_len rs
times_summed low high start n [] a p q = none_summed (range_with_len start n)
times_summed low high start n (r ∷ rs) a p q =
    omega (
      arith,
      times_summed (r.start + r.len + 1) high start n rs a.3 (omega (arith, a.0)) q,
      inside_summed r.start (r.start + r.len) start n (omega arith),
      a.0,
      a.2,
      two_summed (λ b. inside r.start (r.start + r.len) b) (λ b. times_in rs b) (λ b. times_in (r ∷ rs) b) (λ b. refl) (range_with_len start n),
    )

-- the count of the used blocks
pub used_summed : (s : SpaceView) → AreRuns s.first s.holes s.end → s.first ≤ s.end
    → used_count s ≡ count_by (λ b. is_used s b) (range_with_len s.first (s.end - s.first))
used_summed s a le =
    omega (
      arith,
      two_summed (λ b. uses s b) (λ b. times_in s.holes b) (λ b. inside s.first s.end b) (λ b. uses_counted s b a) (range_with_len s.first (s.end - s.first)),
      times_summed s.first s.end s.first (s.end - s.first) s.holes a (omega arith) (omega arith),
      inside_summed s.first s.end s.first (s.end - s.first) le,
    )
