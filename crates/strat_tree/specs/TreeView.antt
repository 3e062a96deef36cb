-- What a caller sees of a tree of versions.
use Rattle.std.specs.Prelude.{ℕ}
use Rattle.strat_base.specs.Tree.{Parents}
use Rattle.strat_base.specs.Marks.{Marks}

-- each version's parent, which were dropped, and how many versions there may be
pub record TreeView : Type 0 where
  pub parents : Parents
  pub marks : Marks
  pub versions_max : ℕ
