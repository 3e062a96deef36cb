use Rattle.std.proofs.Common.{inl, inr, arith}
use Rattle.strat_promote.proofs.ObstacleLemmas.{fit_handed, gives_handed}
use Rattle.strat_promote.proofs.SpacesLemmas.{takes_more}
use Rattle.strat_promote.proofs.push.push_one.Goals as goal

pub returns-in_err-check_array_room-clause-fits : goal.returns-in_err-check_array_room-clause-fits
returns-in_err-check_array_room-clause-fits g c = λ unfit. elim c.in_err-check_array_room.ensures.cause [
  | inl full ↦ inl (omega (arith, full, c.count.ensures.ok))
  | inr none ↦ inr (omega (arith, none, c.free.ensures.ok))
]

pub returns-in_err-push-clause-fits : goal.returns-in_err-push-clause-fits
returns-in_err-push-clause-fits g c = λ unfit. absurd (fit_handed _ c.from_residual-in_err-push.result c.from_residual-in_err-push.ensures.1 unfit)

pub returns-in_err-push-clause-used : goal.returns-in_err-push-clause-used
returns-in_err-push-clause-used g c = let takes = c.push.ensures.found in omega (arith, takes.count, takes.few)

pub returns-in_err-push-clause-cause : goal.returns-in_err-push-clause-cause
returns-in_err-push-clause-cause g c = gives_handed _ c.from_residual-in_err-push.result c.from_residual-in_err-push.ensures.1 _ _ c.in_err-push.ensures.cause

pub returns-in_err-push-clause-room : goal.returns-in_err-push-clause-room
returns-in_err-push-clause-room g c = takes_more c.args.space.now c.push.new.space c.args.writer.now.extents c.push.new.self.extents c.push.ensures.found

pub returns-clause-room : goal.returns-clause-room
returns-clause-room g c = takes_more c.args.space.now c.push.new.space c.args.writer.now.extents c.push.new.self.extents c.push.ensures.found

pub returns-clause-used : goal.returns-clause-used
returns-clause-used g c = let takes = c.push.ensures.found in omega (arith, takes.count, takes.few)
