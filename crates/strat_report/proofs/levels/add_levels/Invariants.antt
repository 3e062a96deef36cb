use Rattle.std.proofs.Common.{◌≡◌, ◌++◌, string_bytes, take}
use Rattle.std.specs.List.{flat_map}
use Rattle.def_texts.specs.Texts.{text, level_lines}
use Rattle.strat_report.proofs.levels.add_levels.Given as goal

abbrev pub invariant-loop-level : goal.invariant-loop-level
invariant-loop-level l = string_bytes l.out ≡ string_bytes l.fn.out ++ flat_map (λ level. text (level_lines level)) (take l.level-index l.levels)
