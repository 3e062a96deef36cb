use Rattle.std.proofs.Common.{◌≡◌, ◌-◌}
use Rattle.std.specs.List.{list_all, range_with_len}
use Rattle.strat_check.specs.LevelNumbers.{is_quiet}
use Rattle.strat_check.proofs.level_rules.are_quiet.Given as goal

abbrev pub invariant-loop-v : goal.invariant-loop-v
invariant-loop-v l = list_all (is_quiet l.marks l.sights) (range_with_len l.v (l.horizon - l.v)) ≡ list_all (is_quiet l.marks l.sights) (range_with_len 0 l.horizon)
