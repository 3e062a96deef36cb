-- As many versions as the loop has come to, and none of them dropped.
use Rattle.std.proofs.Common.{◌≡◌, ◌+◌, ℕ, false, length}
use Rattle.strat_base.specs.Marks.{is_dropped}
use Rattle.strat_promote_tests.proofs.scene.grown.Given as goal

abbrev pub invariant-loop-i : goal.invariant-loop-i
invariant-loop-i l = (length l.tree.parents ≡ l.i + 1) × (l.tree.versions_max ≡ length l.parents + 1) × ((w : ℕ) → is_dropped l.tree.marks w ≡ false)
