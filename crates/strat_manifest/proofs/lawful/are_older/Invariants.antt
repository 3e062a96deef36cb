use Rattle.std.proofs.Common.{◌≡◌, suc, drop}
use Rattle.def_bytes.specs.Manifest.{are_older}
use Rattle.strat_manifest.proofs.lawful.are_older.Given as goal

abbrev pub invariant-loop-i : goal.invariant-loop-i
invariant-loop-i l = are_older (suc l.i) (drop l.i l.parents) ≡ are_older 1 l.parents
