-- The jumps that are filled.
use Rattle.std.proofs.Common.{◌≡◌, length}
use Rattle.strat_tree.proofs.AncestorLemmas.{IsRow}
use Rattle.strat_tree.proofs.tree.Tree.child_row.Given as goal

abbrev pub invariant-loop-i : goal.invariant-loop-i
invariant-loop-i l = (length l.row ≡ 14) × IsRow l.self.parents l.p l.row l.i
