use Rattle.std.proofs.Common.{Bool, ap, ◌∙◌}
use Rattle.std.specs.Prelude.{if◌then◌else◌}
use Rattle.strat_model.specs.Answer.{plain, refusal}
use Rattle.strat_model.specs.declared.replies.Refusal.TheVariants as why
use Rattle.strat_model.specs.declared.replies.Reply.TheVariants as reply
use Rattle.strat_store_pins.proofs.answering.what_memory_decides_is_told.Goals as goal

pub returns : goal.returns
returns c = record {
  none = λ f s v limit key lo hi a not. ((λ tells. tells.0 not), (λ tells. tells.0 not), (λ tells. tells.0 not), (λ tells. tells.0 not));
  found = λ f s v limit key lo hi a known. ((λ tells. (tells.1 known).0), (λ tells. (tells.1 known).0), (λ tells. tells.1 known), (λ tells. tells.1 known));
  stat = λ f s a tells. tells;
  cursor = λ f s n limit a. ((λ not tells. tells.0 not), (λ there tells. tells.1 there));
  end = λ f s n a. (
    (λ there tells. tells ∙ ap (λ (b : Bool). if b then plain reply.Done else refusal why.UnknownCursor) there),
    (λ not tells. tells ∙ ap (λ (b : Bool). if b then plain reply.Done else refusal why.UnknownCursor) not),
  );
}
