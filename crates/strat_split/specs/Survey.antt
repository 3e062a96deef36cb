-- What a split knows of versions.
use Rattle.std.specs.Prelude.{◌≡◌, ◌<◌, ◌≤◌, ℕ, ◌+◌, ◌^◌, List, length, slice_index, Some}
use Rattle.strat_base.specs.Tree.{Parents, parent_of, IsTree}
use Rattle.strat_split.specs.declared.survey.Survey.{Survey}

-- the parents of versions, and of those below the horizon how many leads each has and how many keys are
-- live at it
pub record Told : Type 0 where
  pub parents : Parents
  pub own : List ℕ
  pub live : List ℕ

-- what a survey tells
abbrev pub told : Survey → Told
told survey = record { parents = survey.parents.now; own = survey.own.now; live = survey.live.now }

-- how many versions are to be split
abbrev pub versions_told : Told → ℕ
versions_told t = length t.own

-- the numbers are few and small
pub record IsSized (t : Told) : Type 0 where
  pub tree : IsTree t.parents
  pub some : 0 < length t.own
  pub live_len : length t.live ≡ length t.own
  pub fits : length t.own ≤ length t.parents
  pub few : length t.own ≤ 16384
  pub own_small : (v : ℕ) → slice_index t.own v ≤ 2 ^ 24
  pub small : (v : ℕ) → slice_index t.live v ≤ 2 ^ 24

-- the numbers are those of keys and items in a tree
pub record AreCounted (t : Told) : Type 0 where
  pub tree : IsTree t.parents
  pub some : 0 < length t.own
  pub live_len : length t.live ≡ length t.own
  pub fits : length t.own ≤ length t.parents
  pub few : length t.own ≤ 16384
  pub grows : (v p : ℕ) → v < length t.own → parent_of t.parents v ≡ Some p
      → slice_index t.live p ≤ slice_index t.live v
  pub grows_by_own : (v p : ℕ) → v < length t.own → parent_of t.parents v ≡ Some p
      → slice_index t.live v ≤ slice_index t.live p + slice_index t.own v
  pub first : slice_index t.live 0 ≤ slice_index t.own 0
  pub held : (v : ℕ) → v < length t.own → slice_index t.own v ≤ slice_index t.live v
  pub small : (v : ℕ) → slice_index t.live v ≤ 2 ^ 24
