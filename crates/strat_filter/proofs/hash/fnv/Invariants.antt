use Rattle.std.proofs.Common.{◌≡◌, take}
use Rattle.strat_filter.specs.Bits.{fnv}
use Rattle.strat_filter.proofs.hash.fnv.Given as goal

abbrev pub invariant-loop-byte : goal.invariant-loop-byte
invariant-loop-byte l = l.hash ≡ fnv (take l.byte-index l.key)
