-- The protocol of a leader: bodies are commands, and each change that is carried out is sent with its number.
use Rattle.std.specs.Prelude.{◌≡◌, ◌⊎◌, ℕ, suc, Bool, true, false, List, [], ◌∷◌, ◌++◌, Option, Some}
use Rattle.strat_base.specs.Change.{Change}
use Rattle.strat_model.specs.declared.replies.Refusal.{Refusal}
use Rattle.strat_model.specs.declared.replies.Refusal.TheVariants as why
use Rattle.strat_model.specs.Answer.{accepts, refusal}
use Rattle.strat_model.specs.Request.{Request}
use Rattle.strat_model.specs.Run.{Exchange, is_change}
use Rattle.strat_model.specs.Spelling.{Spells, IsRefusedAs}
use Rattle.def_meaning.specs.StateTable.{request_for}
use Rattle.def_follow.specs.Numbered.{change_frame}
use Rattle.strat_store.specs.Applying.{change_wanted}
use Rattle.strat_loop.specs.Speech.{Said, Speech}

-- the frame of a change that was carried out, and nothing else
abbrev pub frame_made : ℕ → Bool → Option Change → List ℕ
frame_made changes true (Some c) = change_frame (record { number = changes; change = c })
frame_made changes _ _ = []

-- a body that is no command was answered by nothing
pub record IsUnanswered (body : List ℕ) (said : Said) : Type 0 where
  pub cause : Refusal
  pub refused : IsRefusedAs body said.tag cause
  pub answer : said.answer ≡ refusal why.Malformed
  pub none : said.sent ≡ []

-- a change that is carried out is sent under the number of changes before it; nothing else is
abbrev pub leads : Speech
leads = record {
  Asks = λ changes body tag request. Spells body tag request;
  tells = λ changes tag request answer.
      frame_made changes (accepts answer.reply) (change_wanted request);
  Declines = λ changes body said. IsUnanswered body said;
  too_long = [];
}

-- the frames of changes, which are numbered from here on
abbrev pub change_frames : ℕ → List Change → List ℕ
change_frames n [] = []
change_frames n (c ∷ changes) =
    change_frame (record { number = n; change = c }) ++ change_frames (suc n) changes

-- a body asked for this change, and it was carried out
pub record Makes (x : Exchange) (c : Change) : Type 0 where
  pub spelled : Spells x.body x.response.tag (request_for c)
  pub carried : accepts x.response.answer.reply ≡ true

-- a body was refused, or asked for no change
abbrev pub MakesNone : Exchange → Type 0
MakesNone x = (accepts x.response.answer.reply ≡ false)
    ⊎ ((request : Request) × Spells x.body x.response.tag request × (is_change request ≡ false))

-- these changes were carried out in a run, in this order, and no others
abbrev pub AreMade : List Exchange → List Change → Type 0
AreMade [] changes = changes ≡ []
AreMade (x ∷ xs) changes = (MakesNone x × AreMade xs changes)
    ⊎ ((c : Change) × (rest : List Change) × Makes x c × (changes ≡ c ∷ rest) × AreMade xs rest)
