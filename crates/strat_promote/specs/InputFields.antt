-- What a merge sees of a run of a promotion.
use Rattle.strat_merge.specs.Runs.{RunView}
use Rattle.strat_promote.specs.LeadFields.{lead_run_seen}
use Rattle.strat_promote.specs.ZeroFields.{zero_run_seen}
use Rattle.strat_promote.specs.declared.input.Input.{Input}
use Rattle.strat_promote.specs.declared.input.Input.TheVariants as input

-- level 0, or the leads of an array
abbrev pub input_seen : Input → RunView
input_seen (input.Zero run) = zero_run_seen run
input_seen (input.Leads run) = lead_run_seen run
