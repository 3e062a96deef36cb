use Rattle.std.proofs.Common.{◌≡◌, ◌-◌}
use Rattle.def_bytes.specs.Manifest.{read_extent, read_items}
use Rattle.strat_manifest.proofs.ItemLemmas.{continued}
use Rattle.strat_manifest.proofs.parser.take_extents.Given as goal

abbrev pub invariant-loop : goal.invariant-loop
invariant-loop l =
    continued l.extents (read_items read_extent (l.n - l.counter) l.reader) ≡ read_items read_extent l.n l.fn.reader
