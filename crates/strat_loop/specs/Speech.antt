-- How a run treats the bodies of frames, whatever the protocol, and runs of a table that treat them so.
use Rattle.std.specs.Prelude.{◌≡◌, ◌≤◌, ◌⊎◌, ℕ, true, List, [], ◌∷◌, length, Option, None, Some, IfSome}
use Rattle.std.specs.List.{flat_map, AllByRecursion}
use Rattle.strat_model.specs.declared.replies.Refusal.TheVariants as why
use Rattle.strat_model.specs.Answer.{Answer, refusal, accepts}
use Rattle.strat_model.specs.Batch.{IsDeviceFault}
use Rattle.strat_model.specs.Faults.{fault_told}
use Rattle.strat_model.specs.Request.{Request}
use Rattle.strat_model.specs.Run.{Exchange, IsAfter, IsFault, Position, Response, Transcript, is_carried_out, is_change, reaches_disk, takes_memory}
use Rattle.strat_model.specs.Step.{step}

-- what was said to a body: the answer, under a tag, and the bytes that are sent for it
pub record Said : Type 0 where
  pub tag : ℕ
  pub answer : Answer
  pub sent : List ℕ

-- the response without the bytes
abbrev pub response_of : Said → Response
response_of said = record { tag = said.tag; answer = said.answer }

-- a protocol: what bodies ask for, and what is sent
pub record Speech : Type 1 where
  -- at a store that has made so many changes a body asks, under a tag, for this
  pub Asks : ℕ → List ℕ → ℕ → Request → Type 0
  -- and these bytes are sent for the answer
  pub tells : ℕ → ℕ → Request → Answer → List ℕ
  -- or it asks for nothing, and this is said
  pub Declines : ℕ → List ℕ → Said → Type 0
  -- what is sent for a frame that is too long
  pub too_long : List ℕ

-- a body asked for nothing, and what was said tells of no fault
pub record IsDeclined (speech : Speech) (changes : ℕ) (body : List ℕ) (said : Said)
    : Type 0 where
  pub declines : speech.Declines changes body said
  pub calm : fault_told said.answer.reply ≡ None

-- a body asked for this, and what was sent are the bytes for the answer
pub record IsAskedFor (speech : Speech) (changes : ℕ) (body : List ℕ) (request : Request)
    (said : Said) : Type 0 where
  pub asks : speech.Asks changes body said.tag request
  pub text : said.sent ≡ speech.tells changes said.tag request said.answer

-- a body asked for nothing, and changes nothing
pub record SaysNothing (speech : Speech) (at : Position) (body : List ℕ) (said : Said)
    (after : Position) : Type 0 where
  pub declined : IsDeclined speech at.table.changes body said
  pub same : after ≡ at

-- what a body asked for was carried out as the step of the table says
pub record SaysByTable (speech : Speech) (mem : ℕ) (at : Position) (body : List ℕ) (said : Said)
    (after : Position) : Type 0 where
  pub request : Request
  pub asked : IsAskedFor speech at.table.changes body request said
  pub answer : said.answer ≡ (step at.table request).answer
  pub place : IsAfter mem at request after

-- it was refused because memory ran out, though the table accepts it, and changes nothing; a change only where the
-- journal is full
pub record SaysNoMemory (speech : Speech) (mem : ℕ) (at : Position) (body : List ℕ) (said : Said)
    (after : Position) : Type 0 where
  pub request : Request
  pub asked : IsAskedFor speech at.table.changes body request said
  pub takes : takes_memory request ≡ true
  pub accepted : accepts (step at.table request).answer.reply ≡ true
  pub full : is_change request ≡ true → mem ≤ at.fill
  pub answer : said.answer ≡ refusal why.NoMemory
  pub same : after ≡ at

-- what may be said to one body, and the position after it
abbrev pub Says : Speech → ℕ → Position → List ℕ → Said → Position → Type 0
Says speech mem at body said after =
    SaysNothing speech at body said after ⊎ SaysByTable speech mem at body said after
    ⊎ SaysNoMemory speech mem at body said after

-- a run in which so was said, one after the other
abbrev pub IsSpokenRun : Speech → ℕ → Position → List Exchange → List Said → Position → Type 0
IsSpokenRun speech mem at [] [] after = after ≡ at
IsSpokenRun speech mem at (x ∷ xs) (said ∷ more) after =
    (x.at ≡ at) × (x.response ≡ response_of said) × ((mid : Position)
    × Says speech mem at x.body said mid × IsSpokenRun speech mem mid xs more after)
IsSpokenRun speech mem at _ _ after = ⊥

-- what a body asked for met a fault, though the table accepts it, and this is the position if it was carried out
pub record SaysFault (speech : Speech) (mem : ℕ) (at : Position) (body : List ℕ) (said : Said)
    (done : Position) : Type 0 where
  pub request : Request
  pub asked : IsAskedFor speech at.table.changes body request said
  pub reaches : reaches_disk request ≡ true
  pub accepted : accepts (step at.table request).answer.reply ≡ true
  pub answer : IsFault said.answer
  pub place : IsAfter mem at request done

-- a transcript is that of a run in which so was said, and of a fault that was told so
pub record IsSpokenTranscript (speech : Speech) (mem : ℕ) (at : Position) (transcript : Transcript)
    (answers : List Said) (broken : Option Said) : Type 0 where
  pub run : IsSpokenRun speech mem at transcript.exchanges answers transcript.after
  pub interrupted : IfSome transcript.interruption (λ h. (said : Said) × (broken ≡ Some said)
      × (h.response ≡ response_of said)
      × SaysFault speech mem transcript.after h.body said h.done)

-- a change was carried out as the table says
pub record IsSpokenChange (speech : Speech) (mem : ℕ) (x : Exchange) : Type 0 where
  pub said : Said
  pub response : x.response ≡ response_of said
  pub after : Position
  pub by : SaysByTable speech mem x.at x.body said after
  pub made : is_carried_out x.at by.request ≡ true

-- such changes one after the other, at most so many
pub record IsSpokenBatch (speech : Speech) (mem most : ℕ) (at : Position) (changes : List Exchange)
    (end : Position) : Type 0 where
  pub answers : List Said
  pub few : length changes ≤ most
  pub run : IsSpokenRun speech mem at changes answers end
  pub each : AllByRecursion (IsSpokenChange speech mem) changes

-- a body asks, under a tag, for a change that is carried out at this position, or would be but for a fault
pub record AsksToChange (speech : Speech) (at : Position) (body : List ℕ) (tag : ℕ)
    : Type 0 where
  pub request : Request
  pub asks : speech.Asks at.table.changes body tag request
  pub made : is_carried_out at request ≡ true

-- a run is continued behind its interruption over the other changes of a batch, of 16 at most; over nothing where that is
-- no change, or the device did not fail
pub record SpokenContinuation (speech : Speech) (mem : ℕ) (transcript : Transcript)
    : Type 0 where
  pub more : List Exchange
  pub end : Position
  pub none : (IsDeviceFault transcript.interruption → ⊥) → more ≡ []
  pub batch : IfSome transcript.interruption (λ h. IsSpokenBatch speech mem 15 h.done more end)
  pub change : IfSome transcript.interruption (λ h. (more ≡ [])
      ⊎ AsksToChange speech transcript.after h.body h.response.tag)

-- the bytes of all that was said
abbrev pub said_bytes : List Said → List ℕ
said_bytes said = flat_map (λ r. r.sent) said
