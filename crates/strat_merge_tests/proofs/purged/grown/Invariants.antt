-- As many versions as the loop has come to, and none of them dropped.
use Rattle.std.proofs.Common.{◌≡◌, ℕ, false, length}
use Rattle.strat_base.specs.Marks.{is_dropped}
use Rattle.strat_merge_tests.proofs.purged.grown.Given as goal

abbrev pub invariant-loop-v : goal.invariant-loop-v
invariant-loop-v l = (length l.tree.parents ≡ l.v) × (l.tree.versions_max ≡ l.versions) × ((w : ℕ) → is_dropped l.tree.marks w ≡ false)
