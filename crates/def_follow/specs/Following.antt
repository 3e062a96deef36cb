-- What a follower answers to the bodies that it reads, and the table that it then has.
use Rattle.std.specs.Prelude.{◌≡◌, ◌≤◌, ◌<◌, ◌⊎◌, ℕ, List, [], ◌∷◌, ◌++◌}
use Rattle.strat_base.specs.Numbers.{be}
use Rattle.strat_model.specs.declared.replies.Refusal.{Refusal}
use Rattle.strat_model.specs.declared.replies.Refusal.TheVariants as why
use Rattle.strat_model.specs.declared.replies.Reply.{Reply}
use Rattle.strat_model.specs.declared.replies.Reply.TheVariants as reply
use Rattle.strat_model.specs.Answer.{refusal}
use Rattle.strat_model.specs.Run.{Position, IsAfter, IsFault}
use Rattle.strat_model.specs.Spelling.{status_byte, tag_of}
use Rattle.strat_model.specs.Step.{step}
use Rattle.strat_model.specs.Stream.{frame}
use Rattle.def_meaning.specs.StateTable.{request_for}
use Rattle.def_follow.specs.Log.{IsTakenAt}
use Rattle.def_follow.specs.Numbered.{Numbered, SpellsNumbered}

-- what became of the body of a frame that a follower read
pub data Fate : Type 0 where
  Taken : Fate
  Old : Fate
  Gap : Fate
  Malformed : Fate
  Refused : Refusal → Fate

-- a receipt: the number that it answers, what became of its change, and how many changes the follower has then; where a fault
-- was met, how many it had before
pub record Receipt : Type 0 where
  pub number : ℕ
  pub fate : Fate
  pub next : ℕ

-- the byte that says so
abbrev pub fate_byte : Fate → ℕ
fate_byte Taken = 0
fate_byte Old = 1
fate_byte Gap = 2
fate_byte Malformed = 3
fate_byte (Refused cause) = 4

-- the byte that says why a change was refused, and 0 where none was
abbrev pub cause_byte : Fate → ℕ
cause_byte (Refused cause) = status_byte (reply.Refused cause)
cause_byte _ = 0

-- the body of a receipt
abbrev pub receipt_body : Receipt → List ℕ
receipt_body r = be 4 r.number ++ (fate_byte r.fate ∷ (be 4 r.next ++ (cause_byte r.fate ∷ [])))

-- its frame
abbrev pub receipt_frame : Receipt → List ℕ
receipt_frame r = frame (receipt_body r)

-- what became of a change that a store answered so
abbrev pub fate_for : Reply → Fate
fate_for (reply.Refused cause) = Refused cause
fate_for _ = Taken

-- a body is no numbered change, and nothing is done; its first four bytes are answered as its number, or 0 if it has fewer
pub record IsNotOne (at : Position) (body : List ℕ) (r : Receipt) (after : Position) : Type 0 where
  pub none : (n : Numbered) → SpellsNumbered body n → ⊥
  pub receipt : r ≡ record { number = tag_of body; fate = Malformed; next = at.table.changes }
  pub same : after ≡ at

-- a change was taken before, or others stand before it, and nothing is done
pub record IsPassedOver (at : Position) (body : List ℕ) (r : Receipt)
    (after : Position) : Type 0 where
  pub n : Numbered
  pub spelled : SpellsNumbered body n
  pub turn : ((n.number < at.table.changes) × (r.fate ≡ Old))
      ⊎ ((at.table.changes < n.number) × (r.fate ≡ Gap))
  pub number : r.number ≡ n.number
  pub next : r.next ≡ at.table.changes
  pub same : after ≡ at

-- a change that is next was given to the table, which carried it out or refused it
pub record IsGivenToTable (mem : ℕ) (at : Position) (body : List ℕ) (r : Receipt)
    (after : Position) : Type 0 where
  pub n : Numbered
  pub spelled : SpellsNumbered body n
  pub turn : n.number ≡ at.table.changes
  pub place : IsAfter mem at (request_for n.change) after
  pub receipt : r ≡ record {
    number = n.number;
    fate = fate_for (step at.table (request_for n.change)).answer.reply;
    next = after.table.changes;
  }

-- memory ran out for a change that is next and that the table accepts, at a full journal
pub record IsRefusedForMemory (mem : ℕ) (at : Position) (body : List ℕ) (r : Receipt)
    (after : Position) : Type 0 where
  pub n : Numbered
  pub spelled : SpellsNumbered body n
  pub turn : n.number ≡ at.table.changes
  pub accepted : IsTakenAt at.table n.change
  pub full : mem ≤ at.fill
  pub receipt : r ≡ record {
    number = n.number;
    fate = Refused why.NoMemory;
    next = at.table.changes;
  }
  pub same : after ≡ at

-- how a body may be answered, and the position after it
abbrev pub Receives : ℕ → Position → List ℕ → Receipt → Position → Type 0
Receives mem at body r after =
    IsNotOne at body r after ⊎ IsPassedOver at body r after
    ⊎ IsGivenToTable mem at body r after ⊎ IsRefusedForMemory mem at body r after

-- a body, its receipt, and the position at which it was answered
pub record Delivery : Type 0 where
  pub body : List ℕ
  pub receipt : Receipt
  pub at : Position

-- a follower's run from one position to another
abbrev pub IsFollowing : ℕ → Position → List Delivery → Position → Type 0
IsFollowing mem at [] after = after ≡ at
IsFollowing mem at (x ∷ xs) after =
    (x.at ≡ at)
    × ((mid : Position) × Receives mem at x.body x.receipt mid × IsFollowing mem mid xs after)

-- a change that is next met a fault, and this is the position if it was carried out
pub record IsBrokenOff (mem : ℕ) (at : Position) (body : List ℕ) (r : Receipt) (done : Position)
    : Type 0 where
  pub n : Numbered
  pub spelled : SpellsNumbered body n
  pub turn : n.number ≡ at.table.changes
  pub accepted : IsTakenAt at.table n.change
  pub cause : Refusal
  pub fault : IsFault (refusal cause)
  pub receipt : r ≡ record { number = n.number; fate = Refused cause; next = at.table.changes }
  pub place : IsAfter mem at (request_for n.change) done
