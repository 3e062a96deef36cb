-- The protocol of a follower: bodies are changes with their numbers, and each has a receipt.
use Rattle.std.specs.Prelude.{◌≡◌, ◌<◌, ◌⊎◌, ℕ, ◌+◌, if◌then◌else◌, List, []}
use Rattle.strat_model.specs.declared.replies.Refusal.TheVariants as why
use Rattle.strat_model.specs.declared.replies.Reply.{Reply}
use Rattle.strat_model.specs.Answer.{accepts, refusal}
use Rattle.strat_model.specs.Request.{Request}
use Rattle.strat_model.specs.Spelling.{tag_of}
use Rattle.def_meaning.specs.StateTable.{request_for}
use Rattle.def_follow.specs.Following.{Receipt, Old, Gap, Malformed, fate_for, receipt_frame}
use Rattle.def_follow.specs.Numbered.{Numbered, SpellsNumbered}
use Rattle.strat_loop.specs.Speech.{Said, Speech}

-- a body is the numbered change that is next, and asks for it under its number
pub record AsksNext (changes : ℕ) (body : List ℕ) (tag : ℕ) (request : Request) : Type 0 where
  pub n : Numbered
  pub spelled : SpellsNumbered body n
  pub turn : n.number ≡ changes
  pub tag_is : tag ≡ n.number
  pub request_is : request ≡ request_for n.change

-- the receipt for it, by the reply of the store
abbrev pub receipt_after : ℕ → ℕ → Reply → Receipt
receipt_after changes number told = record {
  number = number;
  fate = fate_for told;
  next = if accepts told then changes + 1 else changes;
}

-- a body is no numbered change; its first four bytes are answered as its number, or 0 if it has fewer
pub record IsNoChange (changes : ℕ) (body : List ℕ) (r : Receipt) : Type 0 where
  pub none : (n : Numbered) → SpellsNumbered body n → ⊥
  pub receipt : r ≡ record { number = tag_of body; fate = Malformed; next = changes }

-- it is a numbered change that was taken before, or others stand before it
pub record IsOutOfTurn (changes : ℕ) (body : List ℕ) (r : Receipt) : Type 0 where
  pub n : Numbered
  pub spelled : SpellsNumbered body n
  pub turn : ((n.number < changes) × (r.fate ≡ Old)) ⊎ ((changes < n.number) × (r.fate ≡ Gap))
  pub number : r.number ≡ n.number
  pub next : r.next ≡ changes

-- a body asks for nothing, for one of these reasons, and has this receipt
abbrev pub PassesBy : ℕ → List ℕ → Receipt → Type 0
PassesBy changes body r = IsNoChange changes body r ⊎ IsOutOfTurn changes body r

-- this was said to such a body: the receipt was sent, and no store was asked
pub record IsPassedBy (changes : ℕ) (body : List ℕ) (said : Said) : Type 0 where
  pub receipt : Receipt
  pub passes : PassesBy changes body receipt
  pub tag : said.tag ≡ receipt.number
  pub answer : said.answer ≡ refusal why.Malformed
  pub sent : said.sent ≡ receipt_frame receipt

-- each body has a receipt; a frame that is too long has none
abbrev pub follows : Speech
follows = record {
  Asks = λ changes body tag request. AsksNext changes body tag request;
  tells = λ changes tag request answer. receipt_frame (receipt_after changes tag answer.reply);
  Declines = λ changes body said. IsPassedBy changes body said;
  too_long = [];
}
