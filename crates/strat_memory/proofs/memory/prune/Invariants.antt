use Rattle.std.proofs.Common.{◌≡◌, ◌≤◌, ◌<◌, length}
use Rattle.strat_base.specs.Marks.{ArePruned}
use Rattle.strat_manifest.specs.ManifestView.{marks_listed}
use Rattle.strat_memory.proofs.PruneLemmas.{IsPrunedFrom}
use Rattle.strat_memory.proofs.memory.prune.Given as goal

abbrev pub decreases-loop-v : goal.decreases-loop-v
decreases-loop-v l = l.v

abbrev pub invariant-loop-v : goal.invariant-loop-v
invariant-loop-v l =
    (l.tree.parents ≡ l.fn.tree.parents) × (l.tree.versions_max ≡ l.fn.tree.versions_max)
    × (l.v ≤ length l.marks) × IsPrunedFrom (marks_listed l.marks) l.tree.marks l.v
