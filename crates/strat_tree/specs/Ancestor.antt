-- The ancestor of a version that is a number of steps above it.
use Rattle.std.specs.Prelude.{ℕ, zero, suc, unwrap_or}
use Rattle.strat_base.specs.Tree.{Parents, parent_of}

-- a version's parent, and version 0 where it has none
abbrev pub up : Parents → ℕ → ℕ
up parents v = unwrap_or (parent_of parents v) 0

-- the ancestor that many steps above a version, and version 0 where its path is shorter
unfoldable pub ancestor_at : Parents → ℕ → ℕ → ℕ
ancestor_at parents zero v = v
ancestor_at parents (suc n) v = ancestor_at parents n (up parents v)
