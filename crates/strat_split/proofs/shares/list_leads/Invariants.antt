-- The parts with a lead before i wait.
use Rattle.std.proofs.Common.{◌≤◌, length, vec_capacity}
use Rattle.strat_split.specs.Shares.{is_led_before}
use Rattle.strat_split.specs.Waiting.{IsListed}
use Rattle.strat_split.proofs.shares.list_leads.Given as goal

abbrev pub invariant-loop-i : goal.invariant-loop-i
invariant-loop-i l = record {
  listed : IsListed (is_led_before l.heads l.i) l.waiting.items;
  room : length l.heads ≤ vec_capacity l.waiting;
}
