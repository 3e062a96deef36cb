use Rattle.std.proofs.Common.{◌≡◌, ◌-◌}
use Rattle.def_bytes.specs.Manifest.{read_level, read_items}
use Rattle.strat_manifest.proofs.ItemLemmas.{continued}
use Rattle.strat_manifest.proofs.parser.take_levels.Given as goal

abbrev pub invariant-loop : goal.invariant-loop
invariant-loop l =
    continued l.levels (read_items read_level (l.n - l.counter) l.reader) ≡ read_items read_level l.n l.fn.reader
