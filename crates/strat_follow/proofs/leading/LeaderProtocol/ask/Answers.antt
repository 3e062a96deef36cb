use Rattle.std.proofs.Common.{[], refl, sym}
use Rattle.strat_model.specs.declared.replies.Refusal.TheVariants as why
use Rattle.strat_model.specs.Answer.{refusal}
use Rattle.strat_frame.specs.Faults.{refusal_for}
use Rattle.strat_follow.proofs.leading.LeaderProtocol.ask.Goals as goal

pub returns-in-Err-clause-none : goal.returns-in-Err-clause-none
returns-in-Err-clause-none c = (
  record { tag = c.in-Err.field-0.0; answer = refusal why.Malformed; sent = [] },
  record {
    declines = record { cause = refusal_for c.in-Err.field-0.1; refused = (c.in-Err.ensures).err; answer = refl; none = refl };
    calm = refl;
  },
  sym c.clear.ensures,
)
