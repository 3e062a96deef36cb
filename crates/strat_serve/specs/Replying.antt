-- The protocol of commands and replies.
use Rattle.std.specs.Prelude.{◌≡◌, ℕ, List}
use Rattle.strat_model.specs.Run.{response_bytes}
use Rattle.strat_model.specs.Spelling.{Spells, reply_body}
use Rattle.strat_model.specs.Stream.{frame}
use Rattle.strat_serve.specs.Serving.{IsRefusedFor, too_long_bytes}
use Rattle.strat_loop.specs.Speech.{Said, Speech, response_of}

-- a body that is no command is refused for what is wrong with it, by a reply
pub record IsRefusedBy (body : List ℕ) (said : Said) : Type 0 where
  pub refused : IsRefusedFor body (response_of said)
  pub text : said.sent ≡ response_bytes (response_of said)

-- each command has a reply, and so has a body that is none, and a frame that is too long
abbrev pub replies : Speech
replies = record {
  Asks = λ changes body tag request. Spells body tag request;
  tells = λ changes tag request answer. frame (reply_body tag answer);
  Declines = λ changes body said. IsRefusedBy body said;
  too_long = too_long_bytes;
}
