-- Sizes and intervals of numbers from which an order of versions is made.
use Rattle.std.specs.Prelude.{◌≡◌, ◌<◌, ◌≤◌, ℕ, zero, suc, ◌+◌, ◌-◌, ◌==◌, if◌then◌else◌, List, slice_index, slice_set, Option, Some}
use Rattle.std.specs.Option.{option_map_or}
use Rattle.strat_base.specs.Tree.{Parents, parent_of}

-- what a version adds to the size of w: its own size, where w is its parent
abbrev pub size_given : Parents → (ℕ → ℕ) → ℕ → ℕ → ℕ
size_given parents size w v =
    option_map_or (λ p. if p == w then size v else 0) (parent_of parents v) 0

-- what the k versions from i on add to the size of w
unfoldable pub sizes_given : Parents → (ℕ → ℕ) → ℕ → ℕ → ℕ → ℕ
sizes_given parents size w i zero = 0
sizes_given parents size w i (suc k) =
    size_given parents size w i + sizes_given parents size w (i + 1) k

-- below n a version's size is one more than the sizes of its children, and the root's is at most n
pub record AreSizes (parents : Parents) (n : ℕ) (size : ℕ → ℕ) : Type 0 where
  pub root : 0 < n → size 0 ≤ n
  pub each : (w : ℕ) → w < n
      → size w ≡ 1 + sizes_given parents size w (w + 1) (n - (w + 1))

-- below n each version has an interval, that of its parent holds it behind the parent's own number,
-- and the intervals of two children of one parent have nothing in common
pub record AreIntervals (parents : Parents) (n : ℕ) (start stop : ℕ → ℕ) : Type 0 where
  pub some : (v : ℕ) → v < n → start v < stop v
  pub within : (v p : ℕ) → v < n → parent_of parents v ≡ Some p
      → (start p < start v) × (stop v ≤ stop p)
  pub apart : (u v p : ℕ) → u < v → v < n → parent_of parents u ≡ Some p
      → parent_of parents v ≡ Some p → stop u ≤ start v

-- sizes after that of v was added to its parent's
abbrev pub passed_up : List ℕ → Option ℕ → ℕ → List ℕ
passed_up sizes parent v =
    option_map_or (λ p. slice_set sizes p (slice_index sizes p + slice_index sizes v)) parent sizes

-- where the interval of a version begins: where its parent has numbers left, and at 0 for a root
abbrev pub first_left : List ℕ → Option ℕ → ℕ
first_left ends parent = option_map_or (λ p. slice_index ends p) parent 0
