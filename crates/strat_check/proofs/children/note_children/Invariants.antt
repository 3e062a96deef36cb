use Rattle.std.proofs.Common.{◌≡◌, ◌≤◌, ◌<◌, ℕ, get_or, length}
use Rattle.strat_check.specs.Children.{first_from}
use Rattle.strat_check.proofs.children.note_children.Given as goal

abbrev pub invariant-loop-c : goal.invariant-loop-c
invariant-loop-c l =
    record {
      bound : l.c ≤ length l.tree.parents;
      len : length l.first ≡ length l.tree.parents;
      right : (v : ℕ) → v < length l.tree.parents → get_or l.first v (length l.tree.parents) ≡ first_from l.tree.parents l.tree.marks l.c v;
    }

abbrev pub decreases-loop-c : goal.decreases-loop-c
decreases-loop-c l = l.c
