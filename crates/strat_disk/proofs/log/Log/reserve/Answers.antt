use Rattle.std.proofs.Common.{◌∙◌, ap, arith}
use Rattle.strat_disk.specs.Medium.{Medium}
use Rattle.strat_disk.proofs.LogLemmas.{replays_same}
use Rattle.strat_disk.proofs.log.Log.reserve.Goals as goal

pub invariant_of-self-clause-same_len : goal.invariant_of-self-clause-same_len
invariant_of-self-clause-same_len c = omega (arith, c.make_room.ensures.same.1.length_same, c.make_room.ensures.same.2.length_same, c.args.self.now.same_len)

pub invariant_of-self-clause-replays : goal.invariant_of-self-clause-replays
invariant_of-self-clause-replays c =
    replays_same _ _ _ _ _ _ c.make_room.ensures.same.1.same c.make_room.ensures.same.0 c.args.self.now.replays c.make_room.ensures.same.2.same

pub invariant_of-self-clause-quiet : goal.invariant_of-self-clause-quiet
invariant_of-self-clause-quiet c = λ none i. ap (λ (m : Medium). m.pending i) c.make_room.ensures.same.2.same ∙ c.args.self.now.quiet none i

pub invariant_of-self-clause-spare : goal.invariant_of-self-clause-spare
invariant_of-self-clause-spare c = λ some. omega (arith, c.make_room.ensures.len, c.make_room.ensures.fits, c.args.self.now.spare some)
