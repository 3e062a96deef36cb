use Rattle.std.proofs.Common.{◌≡◌, ◌≤◌, ◌-◌, length, drop}
use Rattle.strat_base.specs.Entries.{lead_entries}
use Rattle.strat_promote.proofs.lead_run.first_lead.Given as goal

abbrev pub invariant-loop-at : goal.invariant-loop-at
invariant-loop-at l =
    (l.from ≤ l.at) × (l.at ≤ length l.blocks.entries) × (lead_entries l.tag (drop l.at l.blocks.entries) ≡ lead_entries l.tag (drop l.from l.blocks.entries))

abbrev pub decreases-loop-at : goal.decreases-loop-at
decreases-loop-at l = length l.blocks.entries - l.at
