use Rattle.strat_manifest.proofs.PrintLemmas.{few_levels}
use Rattle.def_bytes.specs.Layout.{newest_format}
use Rattle.strat_memory.specs.Admitting.{chained_of}
use Rattle.strat_open.proofs.reading.Reading.manifest.Goals as goal

pub returns-clause-fits : goal.returns-clause-fits
returns-clause-fits c = few_levels newest_format (chained_of c.self.inside.found.published).manifest c.self.invariant.spelled
