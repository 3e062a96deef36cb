-- Replies with their pairs.
use Rattle.std.specs.Prelude.{Bool, true, false, []}
use Rattle.strat_model.specs.declared.replies.Reply.{Reply}
use Rattle.strat_model.specs.declared.replies.Reply.TheVariants as reply
use Rattle.strat_model.specs.declared.replies.Refusal.{Refusal}
use Rattle.strat_model.specs.Pairs.{Pairs}

-- a reply, and the pairs that it speaks of
pub record Answer : Type 0 where
  pub reply : Reply
  pub pairs : Pairs

-- a reply without pairs
abbrev pub plain : Reply → Answer
plain r = record { reply = r; pairs = [] }

-- a refusal
abbrev pub refusal : Refusal → Answer
refusal why = plain (reply.Refused why)

-- a reply is no refusal
abbrev pub accepts : Reply → Bool
accepts (reply.Refused why) = false
accepts _ = true

-- a reply with the pairs beside it
abbrev pub as_told : Reply → Pairs → Answer
as_told reply pairs = record { reply = reply; pairs = pairs }
