use Rattle.std.proofs.Common.{arith}
use Rattle.def_bytes.specs.Manifest.{array_bytes}
use Rattle.strat_manifest.proofs.PrintLemmas.{size_within}
use Rattle.strat_manifest.proofs.printer.add_arrays.Goals as goal

pub add_array-requires-clause-room : goal.add_array-requires-clause-room
add_array-requires-clause-room c =
    let within = size_within array_bytes c.args.arrays.now c.loop-a.a-index c.a-item.result (omega arith) c.a-item.is in omega (arith, within)

pub add_array-requires-clause-fits : goal.add_array-requires-clause-fits
add_array-requires-clause-fits c =
    let within = size_within array_bytes c.args.arrays.now c.loop-a.a-index c.a-item.result (omega arith) c.a-item.is in omega (arith, within)
