-- Marks: which versions were dropped.
use Rattle.std.specs.Prelude.{◌≡◌, ℕ, ◌==◌, ◌&&◌, ◌||◌, not, Bool, true, false, List, length, Some, slice_index_or}
use Rattle.std.specs.List.{list_any, list_all, range_with_len}
use Rattle.std.specs.Option.{option_map_or}
use Rattle.strat_base.specs.Tree.{Parents, parent_of}

-- a mark for each version, by its number: it was dropped
abbrev pub Marks : Type 0
Marks = List Bool

-- a version was dropped
abbrev pub is_dropped : Marks → ℕ → Bool
is_dropped marks v = slice_index_or marks v false

-- some version that was not dropped has this one as its parent
abbrev pub has_living_child : Parents → Marks → ℕ → Bool
has_living_child parents marks v =
    list_any
    (λ c. option_map_or (λ p. p == v) (parent_of parents c) false && not (is_dropped marks c))
    (range_with_len 0 (length parents))

-- each version has a mark, version 0 is living, and below a dropped version all are: as a test
abbrev pub are_pruned : Parents → Marks → Bool
are_pruned parents marks =
    (length marks == length parents) && not (is_dropped marks 0)
    && list_all
    (λ v. option_map_or (λ p. not (is_dropped marks p) || is_dropped marks v)
    (parent_of parents v) true)
    (range_with_len 0 (length parents))

-- each version has a mark, version 0 is living, and below a dropped version all are
pub record ArePruned (parents : Parents) (marks : Marks) : Type 0 where
  pub len : length marks ≡ length parents
  pub root : is_dropped marks 0 ≡ false
  pub down : (v p : ℕ) → parent_of parents v ≡ Some p → is_dropped marks p ≡ true
      → is_dropped marks v ≡ true

-- no version was dropped
abbrev pub none_dropped : Marks → Bool
none_dropped marks = list_all not marks
