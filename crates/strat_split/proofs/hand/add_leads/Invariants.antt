-- What is taken, with the leads from here on, is all leads.
use Rattle.std.proofs.Common.{◌≡◌, ◌<◌, ◌≤◌, ◌-◌, ◌++◌, ℕ, length, get_or, Some, vec_capacity}
use Rattle.std.specs.Option.{option_map_or}
use Rattle.strat_split.specs.Dealing.{item_leads}
use Rattle.strat_split.specs.Shares.{labels_in}
use Rattle.strat_split.proofs.LeadLemmas.{rest_leads}
use Rattle.strat_split.proofs.hand.add_leads.Given as goal

abbrev pub invariant-loop-at : goal.invariant-loop-at
invariant-loop-at l = record {
  within : (i : ℕ) → l.at ≡ Some i → (i < length l.hand.items.now) × (get_or (labels_in l.hand) i 0 ≡ l.fn.share.part);
  so_far : l.taken.items ++ rest_leads l.hand.plan.now l.hand.items.now l.fn.share.part l.at ≡ item_leads l.hand.plan.now l.hand.items.now l.fn.share.part;
  few : length l.taken.items ≤ option_map_or (λ i. i) l.at (length l.hand.items.now);
  room : vec_capacity l.taken ≡ vec_capacity l.fn.taken;
}

abbrev pub decreases-loop-at : goal.decreases-loop-at
decreases-loop-at l = option_map_or (λ i. length l.hand.items.now - i) l.at 0
