use Rattle.std.proofs.Common.{arith}
use Rattle.strat_memory.specs.RecoveredFields.{head_recovered}
use Rattle.strat_open.proofs.ReadingLemmas.{fewer_updates}
use Rattle.strat_open.proofs.reading.Reading.changes.Goals as goal

pub returns-clause-fits : goal.returns-clause-fits
returns-clause-fits c =
    rw (← c.self.view_is) (omega (arith, fewer_updates (head_recovered c.self.inside.found) c.self.invariant.spelled, c.counts.ensures.ok.0, c.self.invariant.memory.changes))
