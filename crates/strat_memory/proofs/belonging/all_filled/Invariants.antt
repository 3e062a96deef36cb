use Rattle.std.proofs.Common.{◌≡◌, drop}
use Rattle.std.specs.List.{list_all}
use Rattle.def_recovery.specs.Opening.{is_filled}
use Rattle.def_publish.specs.Occupied.{arrays_in}
use Rattle.strat_memory.proofs.belonging.all_filled.Given as goal

abbrev pub invariant-loop-level : goal.invariant-loop-level
invariant-loop-level l = list_all is_filled (arrays_in (drop l.level-index l.levels)) ≡ list_all is_filled (arrays_in l.levels)
