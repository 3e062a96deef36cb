use Rattle.std.proofs.Common.{◌≡◌, suc, drop}
use Rattle.strat_manifest.specs.ManifestView.{marks_listed}
use Rattle.strat_manifest.specs.Pruned.{are_pruned_from}
use Rattle.strat_manifest.proofs.lawful.are_pruned_from.Given as goal

abbrev pub invariant-loop-i : goal.invariant-loop-i
invariant-loop-i l = are_pruned_from (marks_listed l.marks) (suc l.i) (drop l.i l.parents) ≡ are_pruned_from (marks_listed l.marks) 1 l.parents
