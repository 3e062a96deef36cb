-- Which keys of a range are still to come.
use Rattle.std.specs.Prelude.{ℕ, Bool, true, ◌&&◌, not, List, [], ◌∷◌, filter}
use Rattle.std.specs.Ordering.{is_lt}
use Rattle.strat_base.specs.Order.{key_cmp}
use Rattle.strat_model.specs.Pairs.{Pairs, is_between}

-- a key is after the last one that was handled, if any was
abbrev pub is_after : List ℕ → List ℕ → Bool
is_after [] key = true
is_after (b ∷ last) key = is_lt (key_cmp (b ∷ last) key)

-- a key is at or after lo, and after the last one that was handled
abbrev pub is_to_come : List ℕ → List ℕ → List ℕ → Bool
is_to_come lo last key = not (is_lt (key_cmp key lo)) && is_after last key

-- the pairs of a range whose keys are still to come
abbrev pub range_after : Pairs → List ℕ → List ℕ → List ℕ → Pairs
range_after pairs lo hi last =
    filter (λ pair. is_between lo hi pair.0 && is_after last pair.0) pairs
