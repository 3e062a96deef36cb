use Rattle.std.proofs.Common.{false, refl, arith}
use Rattle.strat_disk.proofs.PlaneLemmas.{shown_is, grown_from}
use Rattle.strat_disk.proofs.plane.Plane.lengthen.Goals as goal

pub returns-clause-same : goal.returns-clause-same
returns-clause-same c =
    let self = c.args.self.now in
    shown_is _ _ _ _
    (grown_from self.bytes.items _ _ _ _ 0 refl c.lengthen.ensures.ok (omega arith))
    (grown_from self.durable.items _ _ _ _ 0 refl c.lengthen-2.ensures.ok (omega (arith, self.durable_len)))
    (grown_from self.pending.items _ _ _ _ false refl c.lengthen_marks.ensures.ok (omega (arith, self.pending_len)))
