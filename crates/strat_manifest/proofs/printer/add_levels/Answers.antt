use Rattle.std.proofs.Common.{arith}
use Rattle.def_bytes.specs.Manifest.{level_bytes}
use Rattle.strat_manifest.proofs.PrintLemmas.{size_within}
use Rattle.strat_manifest.proofs.printer.add_levels.Goals as goal

pub add_level-requires-clause-room : goal.add_level-requires-clause-room
add_level-requires-clause-room c =
    let within = size_within level_bytes c.args.levels.now c.loop-level.level-index c.level-item.result (omega arith) c.level-item.is in omega (arith, within)

pub add_level-requires-clause-fits : goal.add_level-requires-clause-fits
add_level-requires-clause-fits c =
    let within = size_within level_bytes c.args.levels.now c.loop-level.level-index c.level-item.result (omega arith) c.level-item.is in omega (arith, within)
