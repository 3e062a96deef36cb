-- The fields of an order of versions.
use Rattle.std.specs.Prelude.{◌≡◌, length}
use Rattle.strat_tree.specs.Preorder.{Numbering}
use Rattle.strat_tree.specs.declared.preorder.Preorder.TheInside.{Inside}

-- the numbers of these fields
abbrev pub numbering_of : Inside → Numbering
numbering_of a = record { starts = a.starts.items; ends = a.ends.items }

-- each version has both of its numbers
abbrev pub AreNumbered : Inside → Type 0
AreNumbered a = length a.ends.items ≡ length a.starts.items
