use Rattle.std.proofs.Common.{◌≡◌, ℕ, List, sym, ◌∙◌, ap, arith}
use Rattle.strat_disk.specs.Medium.{Medium, written}
use Rattle.strat_disk.specs.PlaneView.{plane_of}
use Rattle.strat_disk.specs.History.{after_event}
use Rattle.strat_disk.proofs.LogLemmas.{replays_more}
use Rattle.strat_disk.proofs.log.Log.write.Goals as goal
use Rattle.strat_disk.proofs.log.Log.write.Goals.{After-note}

-- what the write leaves
after : (c : After-note) → plane_of c.write.new.self ≡ written c.args.at c.args.bytes.now (plane_of c.reserve.new.self.present)
after c = c.write.ensures.ok ∙ ap (λ (m : Medium). written c.args.at c.args.bytes.now m) c.lengthen-2.ensures.same

pub invariant_of-self-clause-same_len : goal.invariant_of-self-clause-same_len
invariant_of-self-clause-same_len c =
    omega (arith, c.lengthen.ensures.len, c.lengthen-2.ensures.len, c.write.ensures.len, c.reserve.new.self.same_len)

pub invariant_of-self-clause-replays : goal.invariant_of-self-clause-replays
unfolding after_event
invariant_of-self-clause-replays c =
    replays_more _ _ _ _ _ _ _ c.lengthen.ensures.same c.note.ensures.ok c.reserve.new.self.replays
    (after c ∙ ap (λ (l : List ℕ). written c.args.at l (plane_of c.reserve.new.self.present)) (sym c.in_ok-copy.ensures.items))
