-- Which versions of a key hide what others see, as it is found in one pass from the greatest version down.
use Rattle.std.specs.Prelude.{ℕ, suc, ◌==◌, not, if◌then◌else◌, List, [], ◌∷◌, ◌++◌, map, filter, sum_by}
use Rattle.strat_base.specs.Tree.{Parents, is_ancestor}

-- pairs of a version and the one whose entry it hides, the nearest above it among those behind: `bare` are the
-- versions so far for which there is none yet
unfoldable pub hidings : Parents → List ℕ → List ℕ → List (ℕ × ℕ)
hidings parents bare [] = []
hidings parents bare (u ∷ us) =
    map (λ t. (t, u)) (filter (is_ancestor parents u) bare)
    ++ hidings parents (u ∷ filter (λ t. not (is_ancestor parents u t)) bare) us

-- the weight of what a version hides
abbrev pub weight_hidden : ℕ → List (ℕ × ℕ) → ℕ
weight_hidden v pairs = sum_by (λ x. if x.0 == v then suc x.1 else 0) pairs
