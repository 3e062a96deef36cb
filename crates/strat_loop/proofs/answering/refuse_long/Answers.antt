use Rattle.std.proofs.Common.{◌≡◌, List, ℕ, ◌++◌, ◌∙◌, ap, subst, refl, inr}
use Rattle.strat_model.specs.declared.ended.Ended.TheVariants as ended
use Rattle.strat_loop.specs.Pending.{Pending, SendsAtEnd}
use Rattle.strat_loop.proofs.PendingLemmas.{cut_front, ends_behind}
use Rattle.strat_loop.proofs.answering.refuse_long.Goals as goal

pub returns-in_default : goal.returns-in_default
returns-in_default g c =
    inr (refl, cut_front (g.K.Sink.held c.args.sink.now) (g.K.Sink.held c.make_room.new.sink) c.args.buffers.now.pending.bytes g.P.Protocol.speech.too_long c.in_default.ensures.err, c.in_default.ensures.cause.err)

pub returns : goal.returns
returns g c =
    let text : c.bytes.result.now ≡ g.P.Protocol.speech.too_long = c.bytes.ensures ∙ c.refuse_long.ensures.ok in
    ends_behind ended.FrameTooLong c.end_run.result (g.K.Sink.held c.args.sink.now) (g.K.Sink.held c.make_room.new.sink) (g.K.Sink.held c.end_run.new.sink)
    (g.K.Sink.faults c.args.sink.now) (g.K.Sink.faults c.make_room.new.sink) (g.K.Sink.faults c.end_run.new.sink) c.args.buffers.now.pending c.make_room.new.pending g.P.Protocol.speech.too_long c.in-Ok.ensures.ok c.in-Ok.ensures.cause.ok
    (subst (λ (x : List ℕ). SendsAtEnd ended.FrameTooLong c.end_run.result (g.K.Sink.held c.make_room.new.sink) (g.K.Sink.held c.end_run.new.sink) (g.K.Sink.faults c.make_room.new.sink) (g.K.Sink.faults c.end_run.new.sink) x)
    (ap (λ (p : Pending). p.bytes) c.keep.ensures.ok ∙ ap (λ (x : List ℕ). c.make_room.new.pending.bytes ++ x) text) c.end_run.ensures)
