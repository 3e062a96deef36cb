use Rattle.std.proofs.Common.{ap}
use Rattle.strat_promote.specs.Opening.{arrays_if_any}
use Rattle.strat_promote.proofs.OpeningLemmas.{opens_empty}
use Rattle.strat_promote.proofs.inputs.open_level.Goals as goal

pub returns-in-None-clause-ok : goal.returns-in-None-clause-ok
returns-in-None-clause-ok g c = opens_empty c.args.horizon (g.D.Disk.view c.args.disk.now) _ _ _ (ap arrays_if_any c.in-None.ensures.ok)
