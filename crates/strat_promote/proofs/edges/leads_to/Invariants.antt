use Rattle.std.proofs.Common.{◌≡◌, ◌≤◌, ◌+◌, ◌-◌, ◌*◌, ◌^◌, min}
use Rattle.strat_level.specs.Target.{leads_down_to}
use Rattle.strat_promote.specs.Promotions.{leads_listed}
use Rattle.strat_promote.proofs.edges.leads_to.Given as goal

abbrev pub invariant-loop-number : goal.invariant-loop-number
invariant-loop-number l = record {
  counted : l.total ≡ leads_down_to (leads_listed l.zero.list l.levels) (l.number - 1);
  near : l.number ≤ min l.target 22 + 1;
  few : l.total ≤ 2 ^ 24 + l.number * 4294967296;
}
