use Rattle.std.proofs.Common.{ℕ, sym, ap, ◌∙◌}
use Rattle.strat_check.specs.Children.{lowered_by_own}
use Rattle.strat_check.proofs.RangeLemmas.{fold_more}
use Rattle.strat_check.proofs.children.lower_by_leads.Goals as goal

pub loop-v-preserved : goal.loop-v-preserved
loop-v-preserved c =
    c.lower_by_own-least.ensures.ok ∙ ap (λ (n : ℕ). lowered_by_own c.args.leads.now.own c.args.first.now n c.loop-v.v) c.loop-v.invariant
    ∙ sym (fold_more (lowered_by_own c.args.leads.now.own c.args.first.now) c.args.lowest c.loop-v.v)
