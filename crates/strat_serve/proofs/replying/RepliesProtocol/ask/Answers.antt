use Rattle.std.proofs.Common.{◌≡◌, ◌∙◌, ap, refl}
use Rattle.strat_frame.specs.Faults.{refusal_for}
use Rattle.strat_model.specs.Answer.{as_told, refusal}
use Rattle.strat_model.specs.Pairs.{Pairs}
use Rattle.strat_model.specs.Spelling.{reply_body}
use Rattle.strat_model.specs.Stream.{frame}
use Rattle.strat_model.specs.declared.replies.Refusal.{Refusal}
use Rattle.strat_model.specs.declared.replies.Reply.TheVariants as reply
use Rattle.strat_loop.specs.Speech.{Said}
use Rattle.strat_serve.proofs.ReplyingLemmas.{none_told}
use Rattle.strat_serve.proofs.replying.RepliesProtocol.ask.Goals as goal

pub returns-in-Err-clause-none : goal.returns-in-Err-clause-none
returns-in-Err-clause-none c =
    let cause : Refusal = refusal_for c.in-Err.fault in
    let said : Said = record { tag = c.in-Err.tag; answer = refusal cause; sent = c.write_reply.new.out } in
    let text : c.write_reply.new.out ≡ frame (reply_body c.in-Err.tag (refusal cause)) =
    c.write_reply.ensures.ok ∙ ap (λ (r : Refusal). frame (reply_body c.in-Err.tag (as_told (reply.Refused r) c.clear-in-Err.new.self))) c.refusal_of.ensures
    ∙ ap (λ (p : Pairs). frame (reply_body c.in-Err.tag (as_told (reply.Refused cause) p))) c.clear-in-Err.ensures.ok in (
      said,
      record {
        declines = record { refused = record { cause = cause; refused = c.in-Err.ensures.err; answer = refl }; text = text };
        calm = none_told c.in-Err.fault;
      },
      refl,
    )
