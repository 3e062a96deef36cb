use Rattle.std.proofs.Common.{length, refl, ap, arith}
use Rattle.strat_disk.specs.Medium.{Medium}
use Rattle.strat_disk.specs.History.{after_event}
use Rattle.strat_disk.proofs.LogLemmas.{replays_more}
use Rattle.strat_disk.proofs.log.Log.sync.Goals as goal

pub invariant_of-self-clause-same_len : goal.invariant_of-self-clause-same_len
invariant_of-self-clause-same_len c = omega (arith, ap length c.sync.ensures.same, c.args.self.now.same_len)

pub invariant_of-self-clause-replays : goal.invariant_of-self-clause-replays
unfolding after_event
invariant_of-self-clause-replays c = replays_more _ _ _ _ _ _ _ refl c.note.ensures.ok c.args.self.now.replays c.sync.ensures.ok

pub invariant_of-self-clause-quiet : goal.invariant_of-self-clause-quiet
invariant_of-self-clause-quiet c = λ _ i. ap (λ (m : Medium). m.pending i) c.sync.ensures.ok
