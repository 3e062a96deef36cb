use Rattle.std.proofs.Common.{◌≡◌, [], ◌∷◌, ◌++◌, string_bytes, take}
use Rattle.std.specs.List.{flat_map}
use Rattle.def_texts.specs.Texts.{text, array_line}
use Rattle.strat_report.proofs.levels.add_arrays.Given as goal

abbrev pub invariant-loop-a : goal.invariant-loop-a
invariant-loop-a l = string_bytes l.out ≡ string_bytes l.fn.out ++ flat_map (λ a. text (array_line a ∷ [])) (take l.a-index l.arrays)
