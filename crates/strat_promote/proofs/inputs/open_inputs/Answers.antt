use Rattle.strat_promote.proofs.OpeningLemmas.{opens_blames}
use Rattle.strat_promote.proofs.inputs.open_inputs.Goals as goal

pub returns-clause-kept : goal.returns-clause-kept
returns-clause-kept g c = λ f b exposed bad.
    opens_blames c.args.horizon (g.D.Disk.view c.args.disk.now) _ _ _ _ _ c.in_ok-open_levels.ensures.ok c.in_ok-runs.ensures.none f b exposed bad
