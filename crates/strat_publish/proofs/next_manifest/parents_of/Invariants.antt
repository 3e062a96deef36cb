use Rattle.std.proofs.Common.{◌≡◌, ◌≤◌, take}
use Rattle.def_recovery.specs.Head.{parent_numbers}
use Rattle.strat_publish.proofs.next_manifest.parents_of.Given as goal

abbrev pub invariant-loop-v : goal.invariant-loop-v
invariant-loop-v l = (l.parents ≡ parent_numbers (take l.v l.tree.parents)) × (l.v ≤ l.versions)
