-- What a protocol says, and at how many changes.
use Rattle.std.proofs.Common.{◌≡◌, ◌+◌, ◌⊎◌, ℕ, List, [], ◌∷◌, Option, Some, None, inl, inr, subst, sym, ◌∙◌, refl, ap}
use Rattle.std.specs.Option.{option_map}
use Rattle.std.specs.Prelude.{IfSome}
use Rattle.strat_memory.specs.Held.{Held}
use Rattle.strat_model.specs.Request.{Request}
use Rattle.strat_model.specs.Run.{Exchange, Interruption, Position, Response, Transcript}
use Rattle.strat_loop.specs.Grouping.{StagesBody}
use Rattle.strat_loop.specs.Speech.{IsSpokenRun, IsSpokenTranscript, Said, Says, SaysFault, Speech, response_of}
use Rattle.strat_loop.specs.Spoken.{AreSaidAt, IsSaidAt}
use Rattle.strat_loop.proofs.StagedLemmas.{one_counts}

-- what is said in a run
pub said_so : (speech : Speech) (mem : ℕ) (at after : Position) (body : List ℕ) (said : Said) → Says speech mem at body said after
    → speech.Declines at.table.changes body said
    ⊎ ((request : Request) × speech.Asks at.table.changes body said.tag request × (said.sent ≡ speech.tells at.table.changes said.tag request said.answer))
said_so speech mem at after body said (inl none) = inl none.declined.declines
said_so speech mem at after body said (inr (inl is)) = inr (is.request, is.asked.asks, is.asked.text)
said_so speech mem at after body said (inr (inr is)) = inr (is.request, is.asked.asks, is.asked.text)

-- and behind a change that was staged
pub counts_one : (speech : Speech) (old mid new : Held) (body other : List ℕ) (said more : Said) → StagesBody speech old body said mid → StagesBody speech mid other more new
    → (request : Request) × speech.Asks (old.memory.changes + 1) other more.tag request × (more.sent ≡ speech.tells (old.memory.changes + 1) more.tag request more.answer)
counts_one speech old mid new body other said more first second =
    subst (λ (n : ℕ). (request : Request) × speech.Asks n other more.tag request × (more.sent ≡ speech.tells n more.tag request more.answer))
    (one_counts speech old mid body said first) (second.request, second.asked.asks, second.asked.text)

-- what is said to each body of a run
pub run_said : (speech : Speech) (mem : ℕ) (at : Position) (xs : List Exchange) (answers : List Said) (after : Position) → IsSpokenRun speech mem at xs answers after → AreSaidAt speech xs answers
run_said speech mem at [] [] after run = tt
run_said speech mem at (x ∷ xs) (said ∷ more) after run = (
  said_so speech mem x.at run.2.0 x.body said (subst (λ (p : Position). Says speech mem p x.body said run.2.0) (sym run.0) run.2.1),
  run_said speech mem run.2.0 xs more after run.2.2,
)
run_said speech mem at [] (said ∷ more) after run = absurd run
run_said speech mem at (x ∷ xs) [] after run = absurd run

-- and to the one that met a fault
module _ (speech : Speech) (mem : ℕ) (after : Position) (said : Said) where
  interrupted_said : (interruption : Option Interruption) (broken : Option Said) → IfSome interruption (λ h. (told : Said) × (broken ≡ Some told)
      × (h.response ≡ response_of told) × SaysFault speech mem after h.body told h.done)
      → option_map response_of broken ≡ option_map (λ h. h.response) interruption → broken ≡ Some said
      → (h : Interruption) × (interruption ≡ Some h) × IsSaidAt speech after.table.changes h.body said
  interrupted_said None broken none same is = absurd (let e : ◌≡◌ {A = Option Response} (Some (response_of said)) None = sym (ap (option_map response_of) is) ∙ same in cc)
  interrupted_said (Some h) broken some same is =
      let one : some.0 ≡ said = (let e : ◌≡◌ {A = Option Said} (Some some.0) (Some said) = sym some.1 ∙ is in cc) in
      (h, refl, subst (IsSaidAt speech after.table.changes h.body) one (inr (some.3.request, some.3.asked.asks, some.3.asked.text)))

pub fault_said : (speech : Speech) (mem : ℕ) (start : Position) (t : Transcript) (answers : List Said) (broken : Option Said) (said : Said) → IsSpokenTranscript speech mem start t answers broken
    → option_map response_of broken ≡ option_map (λ h. h.response) t.interruption → broken ≡ Some said
    → (h : Interruption) × (t.interruption ≡ Some h) × IsSaidAt speech t.after.table.changes h.body said
fault_said speech mem start t answers broken said is same broken_is = interrupted_said speech mem t.after said t.interruption broken is.interrupted same broken_is
