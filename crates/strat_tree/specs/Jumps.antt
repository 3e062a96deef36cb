-- What a tree keeps of its versions, so that walks up their paths are short.
use Rattle.std.specs.Prelude.{◌≡◌, ◌<◌, ℕ, ◌-◌, ◌^◌, Bool, false, List, [], length, slice_index, slice_index_or}
use Rattle.strat_base.specs.Tree.{Parents, depth, has_child}
use Rattle.strat_tree.specs.Ancestor.{ancestor_at}

-- these are the depths of all versions, whether they have children, and where their jumps lead
pub record IsIndex (parents : Parents) (depths : List ℕ) (inner : List Bool)
    (jumps : List (List ℕ)) : Type 0 where
  pub depths_len : length depths ≡ length parents
  pub inner_len : length inner ≡ length parents
  pub jumps_len : length jumps ≡ length parents
  pub deep : (v : ℕ) → v < length parents → slice_index depths v ≡ depth parents v
  pub child : (v : ℕ) → v < length parents → slice_index_or inner v false ≡ has_child parents v
  pub jump : (v i : ℕ) → v < length parents → i < 14
      → slice_index (slice_index_or jumps v []) i ≡ ancestor_at parents (2 ^ i) v

-- the jumps of a child of p: jump i leads 2 ^ i steps up, the first of them to p
abbrev pub IsChildRow : Parents → ℕ → List ℕ → Type 0
IsChildRow parents p row = (i : ℕ) → i < 14 → slice_index row i ≡ ancestor_at parents (2 ^ i - 1) p
