use Rattle.std.proofs.Common.{◌≡◌, ◌-◌}
use Rattle.def_bytes.specs.Manifest.{read_array, read_items}
use Rattle.strat_manifest.proofs.ItemLemmas.{continued}
use Rattle.strat_manifest.proofs.parser.take_arrays.Given as goal

abbrev pub invariant-loop : goal.invariant-loop
invariant-loop l =
    continued l.arrays (read_items read_array (l.n - l.counter) l.reader) ≡ read_items read_array l.n l.fn.reader
