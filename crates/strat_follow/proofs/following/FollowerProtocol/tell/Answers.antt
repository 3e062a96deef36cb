use Rattle.std.proofs.Common.{◌≡◌, ◌∙◌, ◌+◌, Bool, if◌then◌else◌, sym, ap}
use Rattle.strat_base.specs.Numbers.{be}
use Rattle.strat_model.specs.Answer.{accepts}
use Rattle.def_follow.specs.Following.{Fate, fate_for, receipt_frame}
use Rattle.strat_follow.proofs.FrameLemmas.{be-next, receipt_by}
use Rattle.strat_follow.proofs.following.FollowerProtocol.tell.Goals as goal
use Rattle.strat_follow.proofs.following.FollowerProtocol.tell.Goals.{then-is_taken, else-is_taken}

pub returns-clause-ok : goal.returns-clause-ok
returns-clause-ok c =
    let reply = c.args.reply.now in
    let next : be 4 c.if-is_taken.next ≡ be 4 (if accepts reply then c.args.changes + 1 else c.args.changes) = elim c.if-is_taken.branch [
      | then-is_taken w ↦ ap (be 4) w.next-is ∙ be-next c.args.changes c.ranges.changes.fits ∙ ap (λ (b : Bool). be 4 (if b then c.args.changes + 1 else c.args.changes)) (sym w.if-is_taken.true ∙ c.is_taken.ensures)
      | else-is_taken w ↦ ap (be 4) w.next-is ∙ ap (λ (b : Bool). be 4 (if b then c.args.changes + 1 else c.args.changes)) (sym w.if-is_taken.false ∙ c.is_taken.ensures)
    ] in
    c.write_receipt.ensures.ok
    ∙ ap (λ (f : Fate). receipt_frame (record { number = c.args.tag; fate = f; next = c.if-is_taken.next })) c.fate_for.ensures
    ∙ receipt_by c.args.tag (fate_for reply) c.if-is_taken.next (if accepts reply then c.args.changes + 1 else c.args.changes) next
