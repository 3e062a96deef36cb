use Rattle.std.proofs.Common.{arith}
use Rattle.strat_manifest.specs.ManifestView.{manifest_of}
use Rattle.strat_manifest.proofs.PrintLemmas.{few_levels}
use Rattle.strat_manifest.proofs.printer.print.Goals as goal

pub add_manifest-requires-clause-fits : goal.add_manifest-requires-clause-fits
add_manifest-requires-clause-fits c =
    let few = few_levels c.args.format (manifest_of c.args.m.now) c.requires.kept in
    let short = c.requires.fits in
    (omega (arith, short), omega (arith, few))
