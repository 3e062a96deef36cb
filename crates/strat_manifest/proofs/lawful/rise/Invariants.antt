use Rattle.std.proofs.Common.{◌≡◌, length}
use Rattle.def_bytes.specs.Manifest.{is_rising}
use Rattle.strat_manifest.proofs.lawful.rise.Given as goal

abbrev pub invariant-loop-left : goal.invariant-loop-left
invariant-loop-left l = is_rising l.left ≡ is_rising l.xs

abbrev pub decreases-loop-left : goal.decreases-loop-left
decreases-loop-left l = length l.left
