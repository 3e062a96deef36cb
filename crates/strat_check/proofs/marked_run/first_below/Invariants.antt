use Rattle.std.proofs.Common.{◌≡◌, ◌≤◌, ◌-◌, length, drop}
use Rattle.strat_base.specs.Entries.{lead_entries}
use Rattle.strat_check.specs.Below.{versions_below}
use Rattle.strat_check.proofs.marked_run.first_below.Given as goal

abbrev pub invariant-loop-at : goal.invariant-loop-at
invariant-loop-at l =
    (l.from ≤ l.at) × (l.at ≤ length l.blocks.entries) × (lead_entries (versions_below l.versions) (drop l.at l.blocks.entries) ≡ lead_entries (versions_below l.versions) (drop l.from l.blocks.entries))

abbrev pub decreases-loop-at : goal.decreases-loop-at
decreases-loop-at l = length l.blocks.entries - l.at
