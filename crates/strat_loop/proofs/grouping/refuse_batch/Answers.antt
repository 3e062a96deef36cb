use Rattle.std.proofs.Common.{◌≡◌, List, ℕ, ◌++◌, ◌∙◌, ap, subst}
use Rattle.strat_model.specs.declared.ended.Ended.TheVariants as ended
use Rattle.strat_model.specs.declared.replies.Refusal.TheVariants as why
use Rattle.strat_model.specs.Answer.{refusal}
use Rattle.strat_loop.specs.Pending.{Pending, SendsAtEnd}
use Rattle.strat_loop.proofs.grouping.refuse_batch.Goals as goal

pub returns : goal.returns
returns g c = λ r.
    let told : List ℕ = g.P.Protocol.speech.tells c.args.changes c.args.tag r (refusal why.DeviceFault) in
    let text : c.bytes.result.now ≡ told = c.bytes.ensures ∙ c.tell_fault.ensures.ok r in
    subst (λ (x : List ℕ). SendsAtEnd ended.Device c.end_run.result (g.K.Sink.held c.args.sink.now) (g.K.Sink.held c.end_run.new.sink) (g.K.Sink.faults c.args.sink.now) (g.K.Sink.faults c.end_run.new.sink) x)
    (ap (λ (p : Pending). p.bytes) c.keep.ensures.ok ∙ ap (λ (x : List ℕ). c.args.buffers.now.pending.bytes ++ x) text) c.end_run.ensures
