use Rattle.std.proofs.Common.{◌≡◌, ◌∙◌, ap, length, arith}
use Rattle.strat_model.specs.Answer.{as_told, plain}
use Rattle.strat_model.specs.Pairs.{Pairs}
use Rattle.strat_model.specs.Spelling.{reply_body}
use Rattle.strat_model.specs.Stream.{frame}
use Rattle.strat_serve.proofs.ReplyingLemmas.{made_short}
use Rattle.strat_serve.proofs.replying.RepliesProtocol.tell.Goals as goal

pub returns-clause-room : goal.returns-clause-room
returns-clause-room c = λ made none.
    let text : c.write_reply.new.out ≡ frame (reply_body c.args.tag (plain c.args.reply.now)) =
    c.write_reply.ensures.ok ∙ ap (λ (p : Pairs). frame (reply_body c.args.tag (as_told c.args.reply.now p))) none in
    omega (arith, ap length text, made_short c.args.tag c.args.reply.now made)
