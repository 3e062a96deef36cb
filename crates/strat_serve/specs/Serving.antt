-- A serving run of commands and replies: what it answered, what it sent, and what it left on the disk.
use Rattle.std.specs.Prelude.{◌≡◌, ◌≤◌, ◌⊎◌, ℕ, ◌+◌, ◌-◌, ◌*◌, ◌==◌, ◌&&◌, Bool, true, false, if◌then◌else◌, List, [], ◌∷◌, ◌++◌, length, take, map, Option, Some, None, IfSome, IsSome, option_map, Ok}
use Rattle.std.specs.List.{AllByRecursion}
use Rattle.strat_base.specs.declared.failures.Fault.TheVariants as fault
use Rattle.def_crash.specs.Faults.{Rose}
use Rattle.def_crash.specs.Image.{Image}
use Rattle.def_crash.specs.Moments.{DiskView, Exposes}
use Rattle.def_bytes.specs.SuperBlock.{Super}
use Rattle.strat_io.specs.Streams.{Appends}
use Rattle.strat_model.specs.Faults.{fault_told}
use Rattle.strat_model.specs.declared.ended.Ended.{Ended}
use Rattle.strat_model.specs.declared.ended.Ended.TheVariants as ended
use Rattle.strat_model.specs.declared.replies.Refusal.{Refusal}
use Rattle.strat_model.specs.declared.replies.Refusal.TheVariants as why
use Rattle.strat_model.specs.declared.replies.Reply.TheVariants as reply
use Rattle.strat_model.specs.Answer.{refusal}
use Rattle.strat_model.specs.Request.{Request}
use Rattle.strat_model.specs.Spelling.{Spells, IsRefusedAs, reply_body}
use Rattle.strat_model.specs.Stream.{frame, Splits, is_too_long}
use Rattle.strat_model.specs.Table.{Table}
use Rattle.strat_model.specs.Batch.{Continuation, tables_continued}
use Rattle.strat_model.specs.Run.{is_change, reaches_disk, takes_memory, Position, Response, Transcript, IsTranscript, bodies_of, sent_bytes}
use Rattle.def_recovery.specs.Head.{Head}
use Rattle.def_recovery.specs.Opening.{recover}
use Rattle.def_publish.specs.Standing.{ShowsTable}
use Rattle.strat_store.specs.Applying.{is_fault, may_write}
use Rattle.strat_open.specs.Following.{ChangesGateAlone, FollowsFrom}
use Rattle.strat_memory.specs.Held.{Held, IsConsistent, IsOnDisk}
use Rattle.strat_store.specs.Ranging.{HasPairsFor}
use Rattle.strat_loop.specs.Spoken.{FitsBothRegions}
use Rattle.strat_loop.specs.World.{World}
use Rattle.strat_loop.specs.Session.{Took, SendsPrefix, IsFoundAs, IsFoundDamaged, Begins, Session, WaitsForNone, EndsWithFault, EndsFor, AreNextIn, GaveUp}

-- the reply to a frame that is too long
abbrev pub too_long_bytes : List ℕ
too_long_bytes = frame (reply_body 0 (refusal why.FrameTooLong))

-- a body that is no command is refused for what is wrong with it
pub record IsRefusedFor (body : List ℕ) (response : Response) : Type 0 where
  pub cause : Refusal
  pub refused : IsRefusedAs body response.tag cause
  pub answer : response.answer ≡ refusal cause

-- a body is a command, and the response has its tag and no more pairs than were asked for; where that tells
-- that the device failed or that a block is damaged, it is one that reaches the disk, and where it tells of
-- want of memory, one that takes some
pub record IsTaggedFor (body : List ℕ) (response : Response) : Type 0 where
  pub request : Request
  pub spelled : Spells body response.tag request
  pub reached : is_fault response.answer.reply ≡ true → reaches_disk request ≡ true
  pub short : response.answer.reply ≡ reply.Refused why.NoMemory → takes_memory request ≡ true
  pub few : HasPairsFor request response.answer

-- a response may be that to a body, whatever a store says
abbrev pub RespondsTo : List ℕ → Response → Type 0
RespondsTo body response = IsRefusedFor body response ⊎ IsTaggedFor body response

-- a body asks for no change, or its response is none after which a store may have written
abbrev pub WritesNothing : List ℕ → Response → Type 0
WritesNothing body response = (request : Request) → Spells body response.tag request
    → is_change request ≡ true → may_write response.answer.reply ≡ false

-- so it is with each of these bodies that has a response
abbrev pub AreCalm : List (List ℕ) → List Response → Type 0
AreCalm (body ∷ bodies) (response ∷ responses) =
    WritesNothing body response × AreCalm bodies responses
AreCalm _ _ = Unit {0}

-- there is one response for each body, in order
abbrev pub AreAnsweredBy : List (List ℕ) → List Response → Type 0
AreAnsweredBy [] [] = Unit {0}
AreAnsweredBy (body ∷ bodies) (response ∷ responses) =
    RespondsTo body response × AreAnsweredBy bodies responses
AreAnsweredBy _ _ = ⊥

-- a response in a list of its own, if there is one
abbrev pub listed_response : Option Response → List Response
listed_response None = []
listed_response (Some response) = response ∷ []

-- all responses of a session, that to a fault the last
abbrev pub all_responses : Session → List Response
all_responses s = s.answers ++ listed_response s.broken

-- the first bodies of the bytes taken were answered, one response for each, and a fault is told in the
-- last response alone; the last piece was read when each frame that stood whole in front of it had been
-- answered, and by no fault
pub record IsSession (budget : ℕ) (s : Session) : Type 0 where
  pub splits : Splits s.taken s.bodies s.rest
  pub answered : AreAnsweredBy (take (length (all_responses s)) s.bodies) (all_responses s)
  pub calm : AllByRecursion (λ r. fault_told r.answer.reply ≡ None) s.answers
  pub fault : IfSome s.broken (λ r. IsSome (fault_told r.answer.reply))
  pub within : length s.taken ≤ budget
  pub ahead : WaitsForNone s.taken s.bodies (length s.answers)

-- what is sent after the answers: where every body was answered, none met a fault and a frame too
-- long follows, that it is
abbrev pub last_output : Option Response → Bool → Bool → List ℕ
last_output None all long = if all && long then too_long_bytes else []
last_output (Some response) all long = []

-- all that a session sends
abbrev pub output : Session → List ℕ
output s = sent_bytes (all_responses s)
    ++ last_output s.broken (length s.answers == length s.bodies) (is_too_long s.rest)

-- a sink that failed took a prefix of what a session sends: so many replies whole, and no more bodies than
-- that were answered that none of these replies to; the last piece was read when each frame that stood whole
-- in front of it had its reply among these
pub record SendsAllBut (most : ℕ) (before now : Option (List ℕ)) (s : Session) : Type 0 where
  pub cut : SendsPrefix before now (output s)
  pub whole : ℕ
  pub last : length (all_responses s) ≤ whole + most
  pub part : List ℕ
  pub replied : cut.sent ≡ sent_bytes (take whole (all_responses s)) ++ part
  pub ahead : WaitsForNone s.taken s.bodies whole

-- it took all replies but the last sixteen, as replies to changes that become durable together are sent together
abbrev pub SendsAllButBatch : Option (List ℕ) → Option (List ℕ) → Session → Type 0
SendsAllButBatch before now s = SendsAllBut 16 before now s

-- what the sink took of what a session sends: all of it, where it did not fail
abbrev pub Sends : Ended → Option (List ℕ) → Option (List ℕ) → Session → Type 0
Sends ended.Sink before now s = SendsAllButBatch before now s
Sends _ before now s = Appends before now (output s)

-- the responses of a session are those of a run of the table that a content shows, and the disk
-- followed the run's tables up to all that was answered otherwise than by a fault
pub record FollowsRun (before now : DiskView) (f : Image) (t : Table) (s : Session)
    : Type 0 where
  -- the content's journal regions take so many changes, and the run began at this position
  pub mem : ℕ
  pub start : Position
  pub begins : Begins f mem start
  pub table : start.table ≡ t
  -- the run's bodies and answers are the session's, and its interruption is the session's fault,
  -- which is the device's: a disk that shows a table is never found damaged
  pub transcript : Transcript
  pub is : IsTranscript mem start transcript
  -- the journal fitted its two regions throughout
  pub region : FitsBothRegions mem transcript
  pub front : take (length (bodies_of transcript)) s.bodies ≡ bodies_of transcript
  pub answers_are : s.answers ≡ map (λ x. x.response) transcript.exchanges
  pub broken_is : s.broken ≡ option_map (λ h. h.response) transcript.interruption
  pub device : IfSome s.broken (λ r. r.answer ≡ refusal why.DeviceFault)
  -- behind its interruption it is continued over bodies that became durable with that one or not at all: the next ones of
  -- the session, which were not answered
  pub continued : Continuation mem transcript
  pub next : AreNextIn s.bodies transcript continued.more
  pub follows : FollowsFrom before now f (tables_continued transcript continued.end)
      (length transcript.exchanges)

-- a serving run opened the store, and ended so
pub record Served (budget : ℕ) (how : Ended) (before now : World) : Type 0 where
  -- recovery finds a store
  pub head : Head
  pub found : (f : Image) → Exposes before.disk f → recover f ≡ Ok (Some head)
  -- it took these bytes and no others, answered the bodies among them, and sent that
  pub session : Session
  pub is : IsSession budget session
  pub took : Took before.left now.left session.taken
  pub sends : Sends how before.held now.held session
  pub ends : EndsFor how budget session now.left
  -- a command was told of the device's fault exactly where the disk failed, and of a damaged block
  -- only where that is one
  pub faulted : EndsWithFault session.broken fault.Device
      → Rose before.disk_faults now.disk_faults
  pub calm : (EndsWithFault session.broken fault.Device → ⊥)
      → now.disk_faults ≡ before.disk_faults
  pub damaged : (block : ℕ) → EndsWithFault session.broken (fault.Damaged block)
      → IsFoundDamaged before.disk now.disk block
  -- where the disk exposes its content, each crash at the end leaves the superblock and the manifest
  -- of a store as an opening may find it, unless the device failed at a command; where that content shows
  -- a table, its journal too, of at most two changes fewer than both its regions take
  pub left : (EndsWithFault session.broken fault.Device → ⊥) → (f : Image)
      → Exposes before.disk f → (store : Held) × IsConsistent store × IsOnDisk now.disk store
      × ((t : Table) (shows : ShowsTable f t) → IsFoundAs now.disk store
      × (length store.log.list ≤ 2 * store.sb.mem - 2))
  -- and where no change has a response after which a store may have written, a crash leaves what it
  -- might have left before, or the content but for one gate
  pub still : AreCalm session.bodies (all_responses session) → (f : Image) → Exposes before.disk f
      → (slot : ℕ) × (sb : Super) × ChangesGateAlone before.disk now.disk f slot sb
  -- where the disk exposes a content that shows a table, the session is a run of that table
  pub follows : (f : Image) (t : Table) → Exposes before.disk f → ShowsTable f t
      → FollowsRun before.disk now.disk f t session

-- what a serving run did, whether it opened the store or gave up
abbrev pub RunOutcome : ℕ → Ended → World → World → Type 0
RunOutcome budget how before now = GaveUp how before now ⊎ Served budget how before now
