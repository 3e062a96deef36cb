-- A run answers the bodies of a stream in order.
use Rattle.std.specs.Prelude.{◌≡◌, ◌≤◌, ◌<◌, ℕ, ◌+◌, ◌-◌, ◌*◌, nat_lt, if◌then◌else◌, Bool, ◌&&◌, true, false, List, [], ◌∷◌, ◌++◌, map, Option, Some, None, IfSome, ◌⊎◌}
use Rattle.std.specs.List.{flat_map}
use Rattle.strat_model.specs.declared.replies.Refusal.{Refusal}
use Rattle.strat_model.specs.declared.replies.Refusal.TheVariants as why
use Rattle.strat_model.specs.Request.{Request, Put, Delete, Get, Clone, Scan, OpenCursor, NextPairs, DropVersion}
use Rattle.strat_model.specs.Table.{Table, bare}
use Rattle.strat_model.specs.Answer.{Answer, refusal, accepts}
use Rattle.strat_model.specs.Step.{step}
use Rattle.strat_model.specs.Spelling.{Spells, IsRefusedAs, reply_body}
use Rattle.strat_model.specs.Stream.{frame}

-- a command that changes a version or the tree
abbrev pub is_change : Request → Bool
is_change (Put version key value) = true
is_change (Delete version key) = true
is_change (Clone version) = true
is_change (DropVersion version) = true
is_change _ = false

-- a command for which memory may run out
abbrev pub takes_memory : Request → Bool
takes_memory (OpenCursor version lo hi) = true
takes_memory request = is_change request

-- a command that reads or writes the disk
abbrev pub reaches_disk : Request → Bool
reaches_disk (Get version key) = true
reaches_disk (Scan version lo hi limit) = true
reaches_disk (NextPairs cursor limit) = true
reaches_disk request = is_change request

-- the fill, how many changes the journal holds, after one more, where each of its two regions takes so many: it grows by one
-- up to two fewer than both take; or, once one region is full, that one is emptied
abbrev pub MayFill : ℕ → ℕ → ℕ → Type 0
MayFill mem before after =
    ((before < 2 * mem - 2) × (after ≡ before + 1))
    ⊎ ((mem ≤ before) × (after + mem ≡ before + 1))

-- of these fills the one where a region that is full is emptied at once
abbrev pub fill_after : ℕ → ℕ → ℕ
fill_after mem fill = if nat_lt fill mem then fill + 1 else 1

-- a position of a run: its table and its fill
pub record Position : Type 0 where
  pub table : Table
  pub fill : ℕ

-- a response: the tag of the body that it answers, and the answer
pub record Response : Type 0 where
  pub tag : ℕ
  pub answer : Answer

-- the bytes that are sent for a response
abbrev pub response_bytes : Response → List ℕ
response_bytes response = frame (reply_body response.tag response.answer)

-- a command is carried out that is a change and that the table accepts
abbrev pub is_carried_out : Position → Request → Bool
is_carried_out at request = is_change request && accepts (step at.table request).answer.reply

-- a position after a command: the table is that of the step, and a change that is carried out is one more in the journal
pub record IsAfter (mem : ℕ) (at : Position) (request : Request) (after : Position) : Type 0 where
  pub table : after.table ≡ (step at.table request).table
  pub fill : is_carried_out at request ≡ true → MayFill mem at.fill after.fill
  pub same : is_carried_out at request ≡ false → after.fill ≡ at.fill

-- a change that was carried out at a full region left that region empty, and itself in the other
abbrev pub EmptiesAtOnce : ℕ → Position → Request → Position → Type 0
EmptiesAtOnce mem at request after =
    is_carried_out at request ≡ true → after.fill ≡ fill_after mem at.fill

-- a body that is no command is refused for what is wrong with it, and changes nothing
pub record AnswersNoCommand (at : Position) (body : List ℕ) (response : Response)
    (after : Position) : Type 0 where
  pub cause : Refusal
  pub refused : IsRefusedAs body response.tag cause
  pub answer : response.answer ≡ refusal cause
  pub same : after ≡ at

-- a command is carried out as the step of the table says
pub record AnswersByTable (mem : ℕ) (at : Position) (body : List ℕ) (response : Response)
    (after : Position) : Type 0 where
  pub request : Request
  pub spelled : Spells body response.tag request
  pub answer : response.answer ≡ (step at.table request).answer
  pub place : IsAfter mem at request after

-- a command that the table accepts is refused because memory ran out, and changes nothing; a
-- change only where the journal is full
pub record AnswersNoMemory (mem : ℕ) (at : Position) (body : List ℕ) (response : Response)
    (after : Position) : Type 0 where
  pub request : Request
  pub spelled : Spells body response.tag request
  pub takes : takes_memory request ≡ true
  pub accepted : accepts (step at.table request).answer.reply ≡ true
  pub full : is_change request ≡ true → mem ≤ at.fill
  pub answer : response.answer ≡ refusal why.NoMemory
  pub same : after ≡ at

-- how one body may be answered, and the position after it
abbrev pub Answers : ℕ → Position → List ℕ → Response → Position → Type 0
Answers mem at body response after =
    AnswersNoCommand at body response after ⊎ AnswersByTable mem at body response after
    ⊎ AnswersNoMemory mem at body response after

-- a body with its response, and the position at which it was answered
pub record Exchange : Type 0 where
  pub body : List ℕ
  pub response : Response
  pub at : Position

-- a run from one position to another, each body answered at the position after those before it
abbrev pub IsRun : ℕ → Position → List Exchange → Position → Type 0
IsRun mem at [] after = after ≡ at
IsRun mem at (x ∷ xs) after =
    (x.at ≡ at) × ((mid : Position) × Answers mem at x.body x.response mid × IsRun mem mid xs after)

-- an answer says that the device failed, or that a block is damaged
abbrev pub IsFault : Answer → Type 0
IsFault answer =
    (answer ≡ refusal why.DeviceFault) ⊎ ((block : ℕ) × (answer ≡ refusal (why.Damaged block)))

-- a command that the table accepts met a fault, and this is the position if it was carried out
pub record AnswersFault (mem : ℕ) (at : Position) (body : List ℕ) (response : Response)
    (done : Position) : Type 0 where
  pub request : Request
  pub spelled : Spells body response.tag request
  pub reaches : reaches_disk request ≡ true
  pub accepted : accepts (step at.table request).answer.reply ≡ true
  pub answer : IsFault response.answer
  pub place : IsAfter mem at request done

-- an interruption: a body that met a fault, its response, and the position if it was carried out
pub record Interruption : Type 0 where
  pub body : List ℕ
  pub response : Response
  pub done : Position

-- a transcript: bodies with their responses in order, the position after them, and the interruption
-- by the next body, if it met a fault
pub record Transcript : Type 0 where
  pub exchanges : List Exchange
  pub after : Position
  pub interruption : Option Interruption

-- a transcript is that of a run from this position, and no body after an interruption was answered
pub record IsTranscript (mem : ℕ) (at : Position) (transcript : Transcript) : Type 0 where
  pub run : IsRun mem at transcript.exchanges transcript.after
  pub interrupted : IfSome transcript.interruption
      (λ h. AnswersFault mem transcript.after h.body h.response h.done)

-- what is made of an interruption, if there is one
abbrev pub of_interruption : {A : Type 0} → (Interruption → A) → Option Interruption → List A
of_interruption f None = []
of_interruption f (Some interruption) = f interruption ∷ []

-- the bodies of a transcript, that of its interruption the last
abbrev pub bodies_of : Transcript → List (List ℕ)
bodies_of transcript =
    map (λ x. x.body) transcript.exchanges ++ of_interruption (λ h. h.body) transcript.interruption

-- the responses of a transcript, that of its interruption the last
abbrev pub responses_of : Transcript → List Response
responses_of transcript =
    map (λ x. x.response) transcript.exchanges
    ++ of_interruption (λ h. h.response) transcript.interruption

-- the tables of a transcript without cursors, before the first body and after each; an interruption
-- counts as carried out
abbrev pub tables_of : Transcript → List Table
tables_of transcript =
    map (λ x. bare x.at.table) transcript.exchanges
    ++ (bare transcript.after.table
    ∷ of_interruption (λ h. bare h.done.table) transcript.interruption)

-- the positions of a transcript, before the first body and after each; an interruption counts as carried out
abbrev pub positions_of : Transcript → List Position
positions_of transcript =
    map (λ x. x.at) transcript.exchanges
    ++ (transcript.after ∷ of_interruption (λ h. h.done) transcript.interruption)

-- the bytes of all responses
abbrev pub sent_bytes : List Response → List ℕ
sent_bytes responses = flat_map response_bytes responses
