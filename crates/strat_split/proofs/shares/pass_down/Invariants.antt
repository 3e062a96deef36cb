-- The parts before this one that hang from the same have what they take over.
use Rattle.std.proofs.Common.{◌≡◌, ◌<◌, ◌-◌, ℕ, true, cond, eqb, ltb, ◌&&◌, length, get_or, Some, None}
use Rattle.std.specs.Option.{option_map_or}
use Rattle.strat_split.specs.Dealing.{passed_on}
use Rattle.strat_split.specs.Hanging.{carriers_of}
use Rattle.strat_split.specs.Shares.{AreShares}
use Rattle.strat_split.proofs.shares.pass_down.Given as goal

abbrev pub invariant-loop-at : goal.invariant-loop-at
invariant-loop-at l = record {
  shares : AreShares l.shares;
  heads : l.shares.heads.items ≡ l.fn.shares.heads.items;
  within : (r : ℕ) → l.at ≡ Some r → (r < length l.plan.parts) × (get_or (carriers_of l.plan.part_of l.plan.parts) r 0 ≡ l.from);
  passed : (q : ℕ) → q < length l.plan.parts
      → get_or l.shares.gifts.items q None
      ≡ cond (eqb (get_or (carriers_of l.plan.part_of l.plan.parts) q 0) l.from && option_map_or (λ r. ltb q r) l.at true)
      (passed_on l.tree.parents l.plan l.taken l.from l.fn.shares.gifts.items q) (get_or l.fn.shares.gifts.items q None);
}

abbrev pub decreases-loop-at : goal.decreases-loop-at
decreases-loop-at l = option_map_or (λ r. length l.plan.parts - r) l.at 0
