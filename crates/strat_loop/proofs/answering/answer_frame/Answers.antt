use Rattle.std.proofs.Common.{◌≡◌, ◌∙◌, ℕ, sym, subst}
use Rattle.strat_model.specs.declared.replies.Refusal.TheVariants as why
use Rattle.strat_model.specs.declared.replies.Reply.{Reply}
use Rattle.strat_model.specs.declared.replies.Reply.TheVariants as reply
use Rattle.strat_model.specs.Command.{request_of}
use Rattle.strat_model.specs.Answer.{as_told}
use Rattle.strat_model.specs.Request.{Request}
use Rattle.strat_loop.specs.Speech.{IsAskedFor, IsDeclined, Said}
use Rattle.strat_loop.proofs.AnswerLemmas.{answered, fails_as_met, told_nothing, told_damaged}
use Rattle.strat_loop.proofs.answering.answer_frame.Goals as goal

pub returns-clause-ok : goal.returns-clause-ok
returns-clause-ok g c =
    let speech = g.P.Protocol.speech in
    let request : Request = request_of c.in-Some.command in
    let told : Said = record { tag = c.in-Some.tag; answer = as_told c.apply-reply.result c.apply-reply.new.out; sent = c.tell.new.out } in
    let asked : IsAskedFor speech c.args.store.now.memory.changes c.args.body.now request told =
    subst (λ (n : ℕ). IsAskedFor speech n c.args.body.now request told) c.changes-changes.ensures.ok (record { asks = c.in-Some.ensures.ok; text = c.tell.ensures.ok }) in
    answered speech (g.D.Disk.view c.args.disk.now) (g.D.Disk.view c.apply-reply.new.disk) c.args.store.now c.apply-reply.new.self c.args.body.now c.in-Some.tag c.tell.new.out request c.apply-reply.result c.apply-reply.new.out
    asked c.requires.kept c.fault.result c.fault.ensures
    (record { request = request; asked = asked; found = c.apply-reply.ensures.found; same = c.apply-reply.ensures.same.1; err = c.apply-reply.ensures.cause.1; leaves = c.apply-reply.ensures.same.2; cursors = c.apply-reply.ensures.same.3; few = c.apply-reply.ensures.len.0 })
    c.apply-reply.ensures.ok (λ x stands. (c.apply-reply.ensures.trail x stands).0)

pub returns-in_default-clause-ok : goal.returns-in_default-clause-ok
returns-in_default-clause-ok g c =
    let speech = g.P.Protocol.speech in
    let none = c.in_default.ensures.none in
    told_nothing speech (g.D.Disk.view c.args.disk.now) c.args.store.now c.args.body.now none.0 c.ask.new.out c.requires.fits c.requires.kept
    (subst (λ (n : ℕ). IsDeclined speech n c.args.body.now none.0) c.changes-changes.ensures.ok none.1) none.2

pub returns-clause-damaged : goal.returns-clause-damaged
returns-clause-damaged g c =
    λ b e.
    let told : c.apply-reply.result ≡ reply.Refused (why.Damaged b) = told_damaged c.apply-reply.result c.fault.result b c.fault.ensures e in (
      (c.apply-reply.ensures.damaged b told).0,
      (c.apply-reply.ensures.damaged b told).1,
      c.apply-reply.ensures.same.2.beside (λ f. let g : ◌≡◌ {A = Reply} (reply.Refused (why.Damaged b)) (reply.Refused why.DeviceFault) = sym told ∙ f in cc),
    )

pub returns-clause-cause : goal.returns-clause-cause
returns-clause-cause g c =
    fails_as_met c.apply-reply.result c.fault.result (g.D.Disk.faults c.args.disk.now) (g.D.Disk.faults c.apply-reply.new.disk) c.fault.ensures c.apply-reply.ensures.cause.0
