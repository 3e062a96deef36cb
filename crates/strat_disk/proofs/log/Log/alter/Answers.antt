use Rattle.std.proofs.Common.{refl, ◌∙◌, ap, arith, false}
use Rattle.strat_disk.specs.Medium.{Medium}
use Rattle.strat_disk.proofs.PlaneLemmas.{over_both}
use Rattle.strat_disk.proofs.LogLemmas.{replays_none}
use Rattle.strat_disk.proofs.log.Log.alter.Goals as goal

pub invariant_of-self-clause-same_len : goal.invariant_of-self-clause-same_len
invariant_of-self-clause-same_len c = omega (arith, c.copy_from.ensures.len, c.alter.ensures.len, c.args.self.now.same_len)

pub invariant_of-self-clause-replays : goal.invariant_of-self-clause-replays
invariant_of-self-clause-replays c = replays_none _ _ _ c.clear.ensures.items c.copy_from.ensures.ok

pub invariant_of-self-clause-quiet : goal.invariant_of-self-clause-quiet
invariant_of-self-clause-quiet c = λ none i.
    ap (λ (m : Medium). m.pending i) c.alter.ensures.ok ∙ over_both c.args.at 1 (λ _. false) _ false (λ _. refl) (λ k. c.args.self.now.quiet none k) i
