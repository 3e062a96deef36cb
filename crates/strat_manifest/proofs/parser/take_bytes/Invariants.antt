use Rattle.std.proofs.Common.{◌≡◌, ◌-◌}
use Rattle.def_bytes.specs.Manifest.{read_number, read_items}
use Rattle.strat_manifest.proofs.ItemLemmas.{continued}
use Rattle.strat_manifest.proofs.parser.take_bytes.Given as goal

abbrev pub invariant-loop : goal.invariant-loop
invariant-loop l =
    continued l.numbers (read_items (read_number 1) (l.n - l.counter) l.reader) ≡ read_items (read_number 1) l.n l.fn.reader
