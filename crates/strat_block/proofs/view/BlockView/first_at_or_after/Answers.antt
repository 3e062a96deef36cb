use Rattle.std.proofs.Common.{◌+◌, ◌-◌, ◌/◌, ℕ, sym, ◌∙◌, arith}
use Rattle.strat_block.proofs.SearchLemmas.{ascending_of, below_before, above_after}
use Rattle.strat_block.proofs.view.BlockView.first_at_or_after.Goals as goal

pub loop-low-preserved-then-is_below : goal.loop-low-preserved-then-is_below
loop-low-preserved-then-is_below c =
    let up = ascending_of c.args.self.now c.len-high.ensures.kept in
    let mid : ℕ = c.loop-low.low + (c.loop-low.high - c.loop-low.low) / 2 in
    record {
      order = omega arith;
      within = c.loop-low.invariant.within;
      before = below_before c.args.key.now c.args.self.now up mid (omega arith) (λ d. sym (c.is_below.ensures.ok d) ∙ c.if-is_below.true);
      after = c.loop-low.invariant.after;
    }

pub loop-low-preserved : goal.loop-low-preserved
loop-low-preserved c =
    let up = ascending_of c.args.self.now c.len-high.ensures.kept in
    let mid : ℕ = c.loop-low.low + (c.loop-low.high - c.loop-low.low) / 2 in
    record {
      order = omega arith;
      within = omega arith;
      before = c.loop-low.invariant.before;
      after = above_after c.args.key.now c.args.self.now up mid (omega arith) (λ d. sym (c.is_below.ensures.ok d) ∙ c.if-is_below.false);
    }
