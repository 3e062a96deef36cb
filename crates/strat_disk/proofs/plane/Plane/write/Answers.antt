use Rattle.std.proofs.Common.{◌≡◌, subst, sym, refl, arith}
use Rattle.strat_disk.specs.Medium.{IsWhole, shown, written}
use Rattle.strat_disk.proofs.PlaneLemmas.{shown_is, get_or-placed, get_or-marked, whole_written}
use Rattle.strat_disk.proofs.plane.Plane.write.Goals as goal
use Rattle.strat_disk.proofs.plane.Plane.write.Goals.{After-mark}

is_written : (c : After-mark) → shown c.overwrite.new.into.items c.args.self.now.durable.items c.mark.new.into.items
    ≡ written c.args.at c.args.bytes.now (shown c.args.self.now.bytes.items c.args.self.now.durable.items c.args.self.now.pending.items)
is_written c =
    let self = c.args.self.now in
    shown_is _ _ _ _
    (λ i. rw c.overwrite.ensures (get_or-placed self.bytes.items c.args.bytes.now c.args.at 0 c.requires i))
    (λ i. refl)
    (λ i. rw c.mark.ensures (get_or-marked self.pending.items c.args.at _ (omega (arith, c.requires, self.pending_len)) i))

pub invariant_of-self-clause-whole : goal.invariant_of-self-clause-whole
invariant_of-self-clause-whole c =
    let self = c.args.self.now in
    subst IsWhole (sym (is_written c)) (whole_written c.args.at c.args.bytes.now (shown self.bytes.items self.durable.items self.pending.items) self.whole (λ i. omega (arith, c.type_inv.bytes i)))

pub returns-clause-ok : goal.returns-clause-ok
returns-clause-ok c = is_written (goal.at.returns-clause-ok c).After-mark
