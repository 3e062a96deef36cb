-- How many blocks are used, where each of them stands in some extents.
use Rattle.std.proofs.Common.{◌≡◌, ℕ, ◌+◌, ◌-◌, ◌≤◌, List, [], ◌∷◌, refl, arith, min, max}
use Rattle.std.specs.List.{sum_by, range_with_len}
use Rattle.std.proofs.lemmas.List.Sums.{sum_by-cons}
use Rattle.strat_base.specs.declared.descriptors.Extent.{Extent}
use Rattle.strat_extent.specs.Blocks.{SpaceView, AreRuns, inside, times_in, total_len, uses, used_count}
use Rattle.strat_extent.proofs.BlockLemmas.{inside_summed, none_summed, two_summed, used_summed}

most_summed : (f g : ℕ → ℕ) → ((b : ℕ) → f b ≤ g b) → (xs : List ℕ) → sum_by f xs ≤ sum_by g xs
most_summed f g le [] = omega arith
most_summed f g le (x ∷ xs) = omega (arith, le x, most_summed f g le xs, sum_by-cons f x xs, sum_by-cons g x xs)

-- extents stand in a range no more often than they have blocks
times_most : (start n : ℕ) (xs : List Extent) → sum_by (λ b. times_in xs b) (range_with_len start n) ≤ total_len xs
times_most start n [] = omega (arith, none_summed (range_with_len start n))
times_most start n (x ∷ xs) =
    omega (
      arith,
      times_most start n xs,
      inside_summed x.start (x.start + x.len) start n (omega arith),
      two_summed (λ b. inside x.start (x.start + x.len) b) (λ b. times_in xs b) (λ b. times_in (x ∷ xs) b) (λ b. refl) (range_with_len start n),
    )

-- so no more blocks are used than extents have in which each used one stands
pub used_most : (s : SpaceView) (xs : List Extent) → AreRuns s.first s.holes s.end → s.first ≤ s.end → ((b : ℕ) → uses s b ≤ times_in xs b)
    → used_count s ≤ total_len xs
used_most s xs a le among =
    omega (
      arith,
      used_summed s a le,
      most_summed (λ b. uses s b) (λ b. times_in xs b) among (range_with_len s.first (s.end - s.first)),
      times_most s.first (s.end - s.first) xs,
    )
