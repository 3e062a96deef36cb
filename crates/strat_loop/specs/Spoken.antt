-- A serving run, whatever the protocol: as `Session` has it for commands and replies, with what was said in place of responses.
use Rattle.std.specs.Prelude.{◌≡◌, ◌≤◌, ◌⊎◌, ℕ, ◌+◌, ◌-◌, ◌*◌, ◌==◌, ◌&&◌, Bool, true, false, if◌then◌else◌, List, [], ◌∷◌, ◌++◌, length, take, map, Option, Some, None, IfSome, IsSome, option_map, Ok}
use Rattle.std.specs.List.{AllByRecursion}
use Rattle.strat_base.specs.declared.failures.Fault.{Fault}
use Rattle.strat_base.specs.declared.failures.Fault.TheVariants as fault
use Rattle.def_crash.specs.Faults.{Rose}
use Rattle.def_crash.specs.Image.{Image}
use Rattle.def_crash.specs.Moments.{DiskView, Exposes, OnlyReads}
use Rattle.def_crash.specs.Trail.{Trail}
use Rattle.def_bytes.specs.SuperBlock.{Super}
use Rattle.strat_io.specs.Streams.{Appends}
use Rattle.strat_model.specs.Faults.{fault_told}
use Rattle.strat_model.specs.declared.ended.Ended.{Ended}
use Rattle.strat_model.specs.declared.ended.Ended.TheVariants as ended
use Rattle.strat_model.specs.declared.replies.Refusal.TheVariants as why
use Rattle.strat_model.specs.declared.replies.Reply.TheVariants as reply
use Rattle.strat_model.specs.Answer.{refusal}
use Rattle.strat_model.specs.Request.{Request}
use Rattle.strat_model.specs.Stream.{Splits, is_too_long}
use Rattle.strat_model.specs.Table.{Cursor, Table, bare}
use Rattle.strat_model.specs.Batch.{tables_continued}
use Rattle.strat_model.specs.Run.{is_change, reaches_disk, takes_memory, Exchange, Position, Transcript, bodies_of, positions_of}
use Rattle.def_recovery.specs.Head.{Head}
use Rattle.def_recovery.specs.Opening.{recover}
use Rattle.def_meaning.specs.StateTable.{table_of}
use Rattle.def_publish.specs.Contents.{Contents, contents_state}
use Rattle.def_publish.specs.Standing.{ShowsTable}
use Rattle.strat_store.specs.Applying.{IsUntouched, TellsTroubleOf, is_fault, may_write}
use Rattle.strat_store.specs.Cursoring.{LeavesCursors}
use Rattle.strat_open.specs.Following.{ChangesGateAlone, FollowsFrom}
use Rattle.strat_memory.specs.Held.{Held, IsConsistent, IsOnDisk, StandsAt, position_at}
use Rattle.strat_store.specs.Ranging.{HasPairsFor, TellsFrom}
use Rattle.strat_publish.specs.Settling.{LeavesPublished, carries_out}
use Rattle.strat_loop.specs.Session.{AreNextIn, Begins, EndsFor, EndsWithFault, GaveUp, IsFoundAs, IsFoundDamaged, SendsPrefix, Session, Took, WaitsForNone}
use Rattle.strat_loop.specs.Speech.{Said, Speech, IsAskedFor, IsDeclined, IsSpokenTranscript, Says, SaysFault, SpokenContinuation, response_of, said_bytes}
use Rattle.strat_loop.specs.World.{World}

-- a body asked for this at a store that had made so many changes; where it was told that the device failed or that a block is
-- damaged, it is one that reaches the disk, and where of want of memory, one that takes some; it got no more pairs than it
-- asked for
pub record IsSaidFor (speech : Speech) (changes : ℕ) (body : List ℕ) (said : Said) : Type 0 where
  pub request : Request
  pub asked : IsAskedFor speech changes body request said
  pub reached : is_fault said.answer.reply ≡ true → reaches_disk request ≡ true
  pub short : said.answer.reply ≡ reply.Refused why.NoMemory → takes_memory request ≡ true
  pub few : HasPairsFor request said.answer

-- so may be said to a body at some store, whatever that holds
abbrev pub SaysTo : Speech → List ℕ → Said → Type 0
SaysTo speech body said =
    (changes : ℕ) × (IsDeclined speech changes body said ⊎ IsSaidFor speech changes body said)

-- to each body one thing was said, in order
abbrev pub AreSaidTo : Speech → List (List ℕ) → List Said → Type 0
AreSaidTo speech [] [] = Unit {0}
AreSaidTo speech (body ∷ bodies) (said ∷ more) =
    SaysTo speech body said × AreSaidTo speech bodies more
AreSaidTo speech _ _ = ⊥

-- a body asks for no change, or it was told nothing after which a store may have written
abbrev pub SaysCalmly : Speech → List ℕ → Said → Type 0
SaysCalmly speech body said = (changes : ℕ) (request : Request)
    → speech.Asks changes body said.tag request → is_change request ≡ true
    → may_write said.answer.reply ≡ false

-- so it is with each of these bodies that was told anything
abbrev pub AreSaidCalmly : Speech → List (List ℕ) → List Said → Type 0
AreSaidCalmly speech (body ∷ bodies) (said ∷ more) =
    SaysCalmly speech body said × AreSaidCalmly speech bodies more
AreSaidCalmly speech _ _ = Unit {0}

-- so was said to a body, and a store that stood with these contents and cursors goes on
pub record ContinuesWith (speech : Speech) (before now : DiskView) (old : Held) (x : Contents)
    (rows : List Cursor) (body : List ℕ) (said : Said) (new : Held) : Type 0 where
  pub going : new.spent ≡ false
  pub after : Contents
  pub left : List Cursor
  pub stands : StandsAt now new after left
  pub answers : Says speech old.log.mem (position_at old x rows) body said
      (position_at new after left)
  pub trail : Trail ShowsTable now before.moment
      (table_of (contents_state x) ∷ table_of (contents_state after) ∷ []) 1

-- a body met a fault of the device, and the run ends with it
pub record StopsWith (speech : Speech) (before now : DiskView) (old : Held) (x : Contents)
    (rows : List Cursor) (body : List ℕ) (said : Said) : Type 0 where
  pub done : Position
  pub fault : SaysFault speech old.log.mem (position_at old x rows) body said done
  pub answer : said.answer ≡ refusal why.DeviceFault
  pub trail : Trail ShowsTable now before.moment
      (table_of (contents_state x) ∷ bare done.table ∷ []) 0

-- a body asked for nothing, and left the store and the disk alone
pub record IsTurnedAway (speech : Speech) (before now : DiskView) (old : Held) (body : List ℕ)
    (said : Said) (new : Held) : Type 0 where
  pub declined : IsDeclined speech old.memory.changes body said
  pub store : new ≡ old
  pub disk : OnlyReads before now

-- a store answered what a body asked for, on any disk
pub record IsToldBy (speech : Speech) (before now : DiskView) (old : Held) (body : List ℕ)
    (said : Said) (new : Held) : Type 0 where
  pub request : Request
  pub asked : IsAskedFor speech old.memory.changes body request said
  -- where it asks for no change and met no fault it says what memory and the arrays say
  pub found : (f : Image) → Exposes before f → is_fault said.answer.reply ≡ false
      → TellsFrom f old request said.answer
  -- and no more pairs than were asked for
  pub few : HasPairsFor request said.answer
  -- it left the disk as it was, or wrote: what it asked for, and what it was told, says which
  pub same : IsUntouched before now request old said.answer.reply new
  pub err : TellsTroubleOf before old request said.answer.reply
  pub leaves : LeavesPublished before now old (carries_out request said.answer.reply)
      said.answer.reply new
  -- and of the cursors it left what it asked for
  pub cursors : LeavesCursors old request said.answer new

-- these bytes are sent for a body, and what was said tells which fault the store met, if it met one; where
-- the store stood on the disk it was answered as the table says
pub record IsAnswered (speech : Speech) (before now : DiskView) (old : Held) (body : List ℕ)
    (met : Option Fault) (new : Held) (bytes : List ℕ) : Type 0 where
  pub response : Said
  pub spelled : bytes ≡ response.sent
  pub responds : IsTurnedAway speech before now old body response new
      ⊎ IsToldBy speech before now old body response new
  pub tells : met ≡ fault_told response.answer.reply
  pub run : (x : Contents) (rows : List Cursor) → StandsAt before old x rows
      → ContinuesWith speech before now old x rows body response new
      ⊎ StopsWith speech before now old x rows body response

-- the bytes that a serving run took, the bodies and the rest in them, what was said to the first of
-- the bodies, and what to the next one where that tells of a fault
pub record Sitting : Type 0 where
  pub taken : List ℕ
  pub bodies : List (List ℕ)
  pub rest : List ℕ
  pub answers : List Said
  pub broken : Option Said

-- the session of the responses without their bytes
abbrev pub session_of : Sitting → Session
session_of s = record {
  taken = s.taken;
  bodies = s.bodies;
  rest = s.rest;
  answers = map response_of s.answers;
  broken = option_map response_of s.broken;
}

-- what was said in a list of its own, if there is anything
abbrev pub listed_said : Option Said → List Said
listed_said None = []
listed_said (Some said) = said ∷ []

-- all that was said in a sitting, that of a fault the last
abbrev pub all_said : Sitting → List Said
all_said s = s.answers ++ listed_said s.broken

-- so was said to the first bodies of the bytes taken, one after the other, and of a fault in the last alone; the last piece
-- was read when each frame that stood whole in front of it had been answered, and by no fault
pub record IsSitting (speech : Speech) (budget : ℕ) (s : Sitting) : Type 0 where
  pub splits : Splits s.taken s.bodies s.rest
  pub answered : AreSaidTo speech (take (length (all_said s)) s.bodies) (all_said s)
  pub calm : AllByRecursion (λ r. fault_told r.answer.reply ≡ None) s.answers
  pub fault : IfSome s.broken (λ r. IsSome (fault_told r.answer.reply))
  pub within : length s.taken ≤ budget
  pub ahead : WaitsForNone s.taken s.bodies (length s.answers)

-- what is sent after all that was said: where every body was answered, none met a fault and a frame too long follows, what is
-- sent for that
abbrev pub last_said : Speech → Option Said → Bool → Bool → List ℕ
last_said speech None all long = if all && long then speech.too_long else []
last_said speech (Some said) all long = []

-- all that a sitting sends
abbrev pub output_of : Speech → Sitting → List ℕ
output_of speech s = said_bytes (all_said s)
    ++ last_said speech s.broken (length s.answers == length s.bodies) (is_too_long s.rest)

-- a sink that failed took a prefix of what a sitting sends: so many answers whole, and no more bodies than sixteen that
-- were answered have none among these; the last piece was read when each frame that stood whole in front of it
-- had its answer among these
pub record SendsAllButLast (speech : Speech) (before now : Option (List ℕ)) (s : Sitting)
    : Type 0 where
  pub cut : SendsPrefix before now (output_of speech s)
  pub whole : ℕ
  pub last : length (all_said s) ≤ whole + 16
  pub part : List ℕ
  pub replied : cut.sent ≡ said_bytes (take whole (all_said s)) ++ part
  pub ahead : WaitsForNone s.taken s.bodies whole

-- what the sink took of what a sitting sends: all of it, where it did not fail
abbrev pub SendsSaid :
    Speech → Ended → Option (List ℕ) → Option (List ℕ) → Sitting → Type 0
SendsSaid speech ended.Sink before now s = SendsAllButLast speech before now s
SendsSaid speech _ before now s = Appends before now (output_of speech s)

-- at each position of a run the journal fits its two regions, where each takes so many changes: it has at most two fewer than
-- both take
abbrev pub FitsBothRegions : ℕ → Transcript → Type 0
FitsBothRegions mem transcript =
    AllByRecursion (λ p. p.fill ≤ 2 * mem - 2) (positions_of transcript)

-- what was said in a sitting is what a run of the table that a content shows says, and the disk followed the run's tables up
-- to all that was answered otherwise than by a fault
pub record FollowsSpokenRun (speech : Speech) (before now : DiskView) (f : Image) (t : Table)
    (s : Sitting) : Type 0 where
  -- the content's journal regions take so many changes, and the run began at this position
  pub mem : ℕ
  pub start : Position
  pub begins : Begins f mem start
  pub table : start.table ≡ t
  -- the run's bodies and answers are the sitting's, and its interruption is the sitting's fault, which is the device's
  pub transcript : Transcript
  pub is : IsSpokenTranscript speech mem start transcript s.answers s.broken
  -- the journal fitted its two regions throughout
  pub region : FitsBothRegions mem transcript
  pub front : take (length (bodies_of transcript)) s.bodies ≡ bodies_of transcript
  pub answers_are : map response_of s.answers ≡ map (λ x. x.response) transcript.exchanges
  pub broken_is : option_map response_of s.broken
      ≡ option_map (λ h. h.response) transcript.interruption
  pub device : IfSome s.broken (λ r. r.answer ≡ refusal why.DeviceFault)
  -- behind its interruption it is continued over bodies that became durable with that one or not at all: the next ones of
  -- the sitting, which were not answered
  pub continued : SpokenContinuation speech mem transcript
  pub next : AreNextIn s.bodies transcript continued.more
  pub follows : FollowsFrom before now f (tables_continued transcript continued.end)
      (length transcript.exchanges)

-- this is what a protocol says to a body at so many changes: that it asks for nothing, or the bytes for the answer to what it
-- asks for
abbrev pub IsSaidAt : Speech → ℕ → List ℕ → Said → Type 0
IsSaidAt speech changes body said = speech.Declines changes body said
    ⊎ ((request : Request) × speech.Asks changes body said.tag request
    × (said.sent ≡ speech.tells changes said.tag request said.answer))

-- so it is with each body of a run, at the changes of its table there
abbrev pub AreSaidAt : Speech → List Exchange → List Said → Type 0
AreSaidAt speech [] [] = Unit {0}
AreSaidAt speech (x ∷ xs) (said ∷ more) =
    IsSaidAt speech x.at.table.changes x.body said × AreSaidAt speech xs more
AreSaidAt speech _ _ = ⊥

-- a run of this protocol was served over the store that it opened, and ended so
pub record ServedBy (speech : Speech) (budget : ℕ) (how : Ended) (before now : World)
    : Type 0 where
  -- recovery finds a store
  pub head : Head
  pub found : (f : Image) → Exposes before.disk f → recover f ≡ Ok (Some head)
  -- it took these bytes and no others, answered the bodies among them, and sent that
  pub sitting : Sitting
  pub is : IsSitting speech budget sitting
  pub took : Took before.left now.left sitting.taken
  pub sends : SendsSaid speech how before.held now.held sitting
  pub ends : EndsFor how budget (session_of sitting) now.left
  -- the device's fault was told exactly where the disk failed, and a damaged block only where that is one
  pub faulted : EndsWithFault (session_of sitting).broken fault.Device
      → Rose before.disk_faults now.disk_faults
  pub calm : (EndsWithFault (session_of sitting).broken fault.Device → ⊥)
      → now.disk_faults ≡ before.disk_faults
  pub damaged : (block : ℕ) → EndsWithFault (session_of sitting).broken (fault.Damaged block)
      → IsFoundDamaged before.disk now.disk block
  -- where the disk exposes its content, each crash at the end leaves the superblock and the manifest
  -- of a store as an opening may find it, unless the device failed; where that content shows
  -- a table, its journal too, of at most two changes fewer than both its regions take
  pub left : (EndsWithFault (session_of sitting).broken fault.Device → ⊥) → (f : Image)
      → Exposes before.disk f → (store : Held) × IsConsistent store × IsOnDisk now.disk store
      × ((t : Table) (shows : ShowsTable f t) → IsFoundAs now.disk store
      × (length store.log.list ≤ 2 * store.sb.mem - 2))
  -- and where nothing was told to a change after which a store may have written, a crash leaves what it
  -- might have left before, or the content but for one gate
  pub still : AreSaidCalmly speech sitting.bodies (all_said sitting) → (f : Image)
      → Exposes before.disk f
      → (slot : ℕ) × (sb : Super) × ChangesGateAlone before.disk now.disk f slot sb
  -- where the disk exposes a content that shows a table, the sitting is a run of that table
  pub follows : (f : Image) (t : Table) → Exposes before.disk f → ShowsTable f t
      → FollowsSpokenRun speech before.disk now.disk f t sitting

-- what a run of this protocol did, whether it opened the store or gave up
abbrev pub SpokenOutcome : Speech → ℕ → Ended → World → World → Type 0
SpokenOutcome speech budget how before now =
    GaveUp how before now ⊎ ServedBy speech budget how before now
