use Rattle.std.proofs.Common.{◌≡◌, ◌≤◌, length, take}
use Rattle.strat_manifest.specs.ManifestView.{marks_listed}
use Rattle.strat_memory.proofs.memory.marks_of.Given as goal

abbrev pub invariant-loop-v : goal.invariant-loop-v
invariant-loop-v l = marks_listed l.marks ≡ take l.v l.tree.marks
