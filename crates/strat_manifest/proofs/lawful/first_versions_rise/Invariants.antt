use Rattle.std.proofs.Common.{◌≡◌, length, map}
use Rattle.def_bytes.specs.Manifest.{is_rising, first_version}
use Rattle.strat_manifest.proofs.lawful.first_versions_rise.Given as goal

abbrev pub invariant-loop-left : goal.invariant-loop-left
invariant-loop-left l = is_rising (map first_version l.left) ≡ is_rising (map first_version l.arrays)

abbrev pub decreases-loop-left : goal.decreases-loop-left
decreases-loop-left l = length l.left
