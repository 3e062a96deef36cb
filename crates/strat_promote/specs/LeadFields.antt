-- The fields of a run over the leads of an array.
use Rattle.std.specs.Prelude.{drop}
use Rattle.strat_merge.specs.Runs.{RunView}
use Rattle.strat_promote.specs.LeadRuns.{leads_from}
use Rattle.strat_promote.specs.declared.lead_run.LeadRun.{LeadRun}

-- what a merge sees of these fields
abbrev pub lead_run_seen : LeadRun → RunView
lead_run_seen r = leads_from r.tag r.horizon (drop r.at r.blocks.entries) r.blocks.blocks
