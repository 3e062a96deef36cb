use Rattle.std.proofs.Common.{◌≡◌, drop}
use Rattle.std.specs.List.{list_all}
use Rattle.strat_check.specs.Fit.{is_fit_level}
use Rattle.strat_check.proofs.fit.are_fit_levels.Given as goal

abbrev pub invariant-loop-level : goal.invariant-loop-level
invariant-loop-level l = list_all (is_fit_level l.versions) (drop l.level-index l.levels) ≡ list_all (is_fit_level l.versions) l.levels
