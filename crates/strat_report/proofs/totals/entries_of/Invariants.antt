use Rattle.std.proofs.Common.{◌≡◌, ◌≤◌, ◌*◌, take}
use Rattle.std.specs.List.{sum_by}
use Rattle.strat_report.proofs.totals.entries_of.Given as goal

abbrev pub invariant-loop-a : goal.invariant-loop-a
invariant-loop-a l = (l.entries ≡ sum_by (λ a. a.entries) (take l.a-index l.arrays)) × (l.entries ≤ 4294967295 * l.a-index)
