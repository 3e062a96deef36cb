-- Replies to single bodies.
use Rattle.std.proofs.Common.{◌≡◌, ◌≤◌, ℕ, [], ◌∷◌, length, None, refl, sym, subst, inl, inr, length-append, arith}
use Rattle.strat_base.specs.Numbers.{be}
use Rattle.strat_base.proofs.NumberLemmas.{length-be}
use Rattle.strat_frame.specs.declared.commands.BodyFault.{BodyFault}
use Rattle.strat_frame.specs.declared.commands.BodyFault.TheVariants as body
use Rattle.strat_frame.specs.Faults.{refusal_for}
use Rattle.strat_model.specs.Answer.{plain}
use Rattle.strat_model.specs.Faults.{fault_told}
use Rattle.strat_model.specs.Spelling.{reply_body}
use Rattle.strat_model.specs.Stream.{frame}
use Rattle.strat_model.specs.declared.replies.Reply.{Reply}
use Rattle.strat_model.specs.declared.replies.Reply.TheVariants as reply
use Rattle.strat_loop.specs.Grouping.{TellsMade}

-- no body is refused for a fault
pub none_told : (f : BodyFault) → fault_told (reply.Refused (refusal_for f)) ≡ None
none_told body.Malformed = refl
none_told body.KeySize = refl
none_told body.ValueSize = refl
none_told body.ScanSize = refl

-- the frame of a reply that tells so is short
pub made_short : (tag : ℕ) (r : Reply) → TellsMade r → length (frame (reply_body tag (plain r))) ≤ 13
made_short tag r (inl e) = subst (λ (y : Reply). length (frame (reply_body tag (plain y))) ≤ 13) (sym e) (done_short tag)
  where
    done_short : (n : ℕ) → length (frame (reply_body n (plain reply.Done))) ≤ 13
    done_short n = omega (arith, length-append (be 4 (length (reply_body n (plain reply.Done)))) (reply_body n (plain reply.Done)), length-be 4 (length (reply_body n (plain reply.Done))), length-append (be 4 n) (0 ∷ []), length-be 4 n)
made_short tag r (inr e) = subst (λ (y : Reply). length (frame (reply_body tag (plain y))) ≤ 13) (sym e.1) (number_short tag e.0)
  where
    number_short : (n v : ℕ) → length (frame (reply_body n (plain (reply.Made v)))) ≤ 13
    number_short n v = omega (arith, length-append (be 4 (length (reply_body n (plain (reply.Made v))))) (reply_body n (plain (reply.Made v))), length-be 4 (length (reply_body n (plain (reply.Made v)))), length-append (be 4 n) (4 ∷ be 4 v), length-be 4 n, length-be 4 v)
