use Rattle.std.proofs.Common.{◌≡◌, length}
use Rattle.def_bytes.specs.Manifest.{are_apart}
use Rattle.strat_manifest.proofs.lawful.stand_apart.Given as goal

abbrev pub invariant-loop-left : goal.invariant-loop-left
invariant-loop-left l = are_apart l.left ≡ are_apart l.xs

abbrev pub decreases-loop-left : goal.decreases-loop-left
decreases-loop-left l = length l.left
