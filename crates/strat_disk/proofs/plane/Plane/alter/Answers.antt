use Rattle.std.proofs.Common.{false, arith}
use Rattle.strat_disk.proofs.PlaneLemmas.{shown_is, get_or-set}
use Rattle.strat_disk.proofs.plane.Plane.alter.Goals as goal

pub returns-clause-ok : goal.returns-clause-ok
returns-clause-ok c =
    let self = c.args.self.now in
    shown_is _ _ _ _
    (get_or-set self.bytes.items c.args.at c.args.byte 0 c.requires)
    (get_or-set self.durable.items c.args.at c.args.byte 0 (omega (arith, c.requires, self.durable_len)))
    (get_or-set self.pending.items c.args.at false false (omega (arith, c.requires, self.pending_len)))
