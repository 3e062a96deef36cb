use Rattle.std.proofs.Common.{◌≡◌, length, map}
use Rattle.def_bytes.specs.Manifest.{is_rising}
use Rattle.strat_manifest.proofs.lawful.numbers_rise.Given as goal

abbrev pub invariant-loop-left : goal.invariant-loop-left
invariant-loop-left l = is_rising (map (λ level. level.number) l.left) ≡ is_rising (map (λ level. level.number) l.levels)

abbrev pub decreases-loop-left : goal.decreases-loop-left
decreases-loop-left l = length l.left
