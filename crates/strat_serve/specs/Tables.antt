-- What a serving run does over a disk that shows a table, in words of tables and of crashes.
use Rattle.std.specs.Prelude.{◌≡◌, ◌≢◌, ◌≤◌, ◌<◌, ◌⊎◌, ℕ, ◌+◌, ◌*◌, List, [], ◌++◌, length, take, Option, Some, None, IfSome, IsTrue}
use Rattle.std.specs.List.{list_all}
use Rattle.def_crash.specs.Faults.{Rose}
use Rattle.def_crash.specs.Image.{Image}
use Rattle.def_crash.specs.Moments.{DiskView, Images, Since}
use Rattle.def_crash.specs.Trail.{At, Trail}
use Rattle.strat_io.specs.Streams.{Appends}
use Rattle.strat_model.specs.declared.ended.Ended.{Ended}
use Rattle.strat_model.specs.declared.ended.Ended.TheVariants as ended
use Rattle.strat_model.specs.declared.replies.Refusal.TheVariants as why
use Rattle.strat_model.specs.Answer.{refusal}
use Rattle.strat_model.specs.Ended.{status_of}
use Rattle.strat_model.specs.Batch.{Continuation, tables_continued}
use Rattle.strat_model.specs.Run.{Position, Exchange, Interruption, Transcript, IsTranscript, bodies_of, responses_of, sent_bytes}
use Rattle.strat_model.specs.Stream.{Splits, Rest, Long, ending_of}
use Rattle.strat_model.specs.Table.{Table}
use Rattle.def_recovery.specs.Opening.{reads_as}
use Rattle.def_publish.specs.Standing.{ShowsTable}
use Rattle.def_state.specs.Level.{is_dense}
use Rattle.def_state.specs.Sound.{IsSound}
use Rattle.def_state.specs.State.{State, stored, updates_of, versions_of}
use Rattle.strat_memory.specs.Paying.{IsPaidIn}
use Rattle.strat_loop.specs.Session.{Took, AreNextIn, IsAtEnd, WaitsForNone}
use Rattle.strat_serve.specs.Serving.{too_long_bytes}
use Rattle.strat_loop.specs.Spoken.{FitsBothRegions}
use Rattle.strat_loop.specs.World.{Streams}

-- a run answered every frame that was taken whole, none of them by a fault, and a rest with no whole frame was taken
-- behind them; its replies were sent, and these bytes behind them
pub record AnswersAllTaken (run : Transcript) (taken rest sent more : List ℕ) : Type 0 where
  pub unbroken : run.interruption ≡ None
  pub splits : Splits taken (bodies_of run) rest
  pub replies : sent ≡ sent_bytes (responses_of run) ++ more

-- a run answered the first frames that were taken, and the last of these by the device's fault; its replies were sent.
-- The last piece was read when each frame that stood whole in front of it had been answered otherwise
pub record AnswersUntilFault (run : Transcript) (taken sent : List ℕ) : Type 0 where
  pub bodies : List (List ℕ)
  pub rest : List ℕ
  pub splits : Splits taken bodies rest
  pub front : take (length (bodies_of run)) bodies ≡ bodies_of run
  pub broken : Interruption
  pub is_broken : run.interruption ≡ Some broken
  pub fault : broken.response.answer ≡ refusal why.DeviceFault
  pub replies : sent ≡ sent_bytes (responses_of run)
  pub ahead : WaitsForNone taken bodies (length run.exchanges)

-- these bytes are none, or where a run answered every frame taken, and none by a fault, they refuse a frame too long
-- that stands behind them
abbrev pub RefusesNext : Transcript → List (List ℕ) → List ℕ → List ℕ → Type 0
RefusesNext run bodies rest more = (more ≡ []) ⊎ ((more ≡ too_long_bytes)
    × (ending_of rest ≡ Long) × (bodies_of run ≡ bodies) × (run.interruption ≡ None))

-- a run answered the first frames that were taken, and a front of its replies was sent, all of them whole but no more than
-- so many at the end. The last piece was read when each frame that stood whole in front of it had a whole reply
pub record AnswersUntilCut (most : ℕ) (run : Transcript) (taken sent : List ℕ) : Type 0 where
  pub bodies : List (List ℕ)
  pub rest : List ℕ
  pub splits : Splits taken bodies rest
  pub front : take (length (bodies_of run)) bodies ≡ bodies_of run
  pub more : List ℕ
  pub next : RefusesNext run bodies rest more
  pub unsent : List ℕ
  pub some : 0 < length unsent
  pub cut : sent_bytes (responses_of run) ++ more ≡ sent ++ unsent
  pub whole : ℕ
  pub last : length (responses_of run) ≤ whole + most
  pub part : List ℕ
  pub replies : sent ≡ sent_bytes (take whole (responses_of run)) ++ part
  pub ahead : WaitsForNone taken bodies whole

-- nothing was taken, answered or sent
pub record AnswersNothing (run : Transcript) (taken sent : List ℕ) : Type 0 where
  pub none : bodies_of run ≡ []
  pub taken_none : taken ≡ []
  pub sent_none : sent ≡ []

-- what a run answered of the bytes taken, and what was sent, by how it ended: with its input after whole frames or within
-- one, at a length that no frame may have, at the budget, as the source, the device or the sink failed, or for want of
-- memory before its first read; no run over a disk that shows a table ends otherwise
abbrev pub AnswersUntil :
    Ended → ℕ → Transcript → List ℕ → Option (List ℕ) → List ℕ → Type 0
AnswersUntil ended.Done budget run taken left sent =
    AnswersAllTaken run taken [] sent [] × IsAtEnd left × (length taken < budget)
AnswersUntil ended.Truncated budget run taken left sent =
    (rest : List ℕ) × AnswersAllTaken run taken rest sent [] × (ending_of rest ≡ Rest)
    × IsAtEnd left × (length taken < budget)
AnswersUntil ended.FrameTooLong budget run taken left sent =
    (rest : List ℕ) × AnswersAllTaken run taken rest sent too_long_bytes × (ending_of rest ≡ Long)
AnswersUntil ended.Budget budget run taken left sent =
    (rest : List ℕ) × AnswersAllTaken run taken rest sent [] × (ending_of rest ≢ Long)
    × (length taken ≡ budget)
AnswersUntil ended.Source budget run taken left sent =
    (rest : List ℕ) × AnswersAllTaken run taken rest sent [] × (ending_of rest ≢ Long)
AnswersUntil ended.Device budget run taken left sent =
    AnswersNothing run taken sent ⊎ AnswersUntilFault run taken sent
AnswersUntil ended.Sink budget run taken left sent = AnswersUntilCut 16 run taken sent
AnswersUntil ended.NoMemory budget run taken left sent = AnswersNothing run taken sent
AnswersUntil _ budget run taken left sent = ⊥

-- where a run begins that is served from an image which shows a table: at that table, with as many changes in the
-- journal as the image has
abbrev pub begins_at : (c : Image) (t : Table) → ShowsTable c t → Position
begins_at c t shows = record { table = t; fill = length shows.state.journal }

-- the bodies over which a run is continued are those of the frames that were taken next behind the run's own
pub record AreTakenNext (taken : List ℕ) (run : Transcript) (more : List Exchange) : Type 0 where
  pub bodies : List (List ℕ)
  pub rest : List ℕ
  pub splits : Splits taken bodies rest
  pub next : AreNextIn bodies run more

-- a run is broken off only where the device failed at its last command, and the disk counted that
abbrev pub BreaksForFault : Transcript → Streams → Streams → Type 0
BreaksForFault run before now = IfSome run.interruption
    (λ h. (h.response.answer ≡ refusal why.DeviceFault) × Rose before.disk_faults now.disk_faults)

-- a serving run with this status answered as a run of a table from this position, which is continued over those of the
-- bodies taken next that became durable with its last one or not at all
pub record AnswersAsTable (budget mem : ℕ) (start : Position) (status : ℕ) (before now : Streams)
    : Type 0 where
  pub how : Ended
  pub ended : status ≡ status_of how
  pub run : Transcript
  pub is : IsTranscript mem start run
  pub region : FitsBothRegions mem run
  pub broken : BreaksForFault run before now
  pub taken : List ℕ
  pub took : Took before.left now.left taken
  pub within : length taken ≤ budget
  pub sent : List ℕ
  pub adds : Appends before.held now.held sent
  pub until : AnswersUntil how budget run taken now.left sent
  pub continued : Continuation mem run
  pub next : AreTakenNext taken run continued.more

-- each image now shows the table after all of a run's bodies that were answered otherwise than by a fault, or the one at
-- this position, where the run ends that is continued over the whole batch of the body that met a fault
abbrev pub EndsAtTables : Transcript → Position → DiskView → Type 0
EndsAtTables run end now = (c : Image) → Images now c
    → (i : ℕ) × (length run.exchanges ≤ i) × At (tables_continued run end) i (ShowsTable c)

-- up to some moment a crash leaves only what it might have left before, at that moment this content alone, and from then
-- on the images go through the tables of a run, which may be continued up to this position
pub record GoesThroughTables (run : Transcript) (end : Position) (f : Image)
    (before now : DiskView) : Type 0 where
  pub synced : ℕ
  pub from : before.moment ≤ synced
  pub till : synced ≤ now.moment
  pub content : now.images_at synced f
  pub one : (c : Image) → now.images_at synced c → c ≡ f
  pub until : (m : ℕ) (c : Image) → before.moment ≤ m → m ≤ synced → now.images_at m c
      → Images before c
  pub trail : Trail ShowsTable now synced (tables_continued run end) (length run.exchanges)

-- an image reads as a sound state that stores at most two entries for each update; each of its arrays is at least a third
-- live in each version of its tag
pub record IsThrifty (c : Image) : Type 0 where
  pub state : State
  pub reads : reads_as c ≡ Some state
  pub sound : IsSound state
  pub dense : IsTrue (list_all
      (λ level. list_all (is_dense (versions_of state)) level.arrays) state.levels)
  pub two : stored state ≤ 2 * updates_of state

-- what a crash may leave at any moment of a run it might have left before, or it reads as a sound state that stores at
-- most two entries for each update, and is paid for where this content is
abbrev pub KeepsSpace : Image → DiskView → DiskView → Type 0
KeepsSpace f before now = (c : Image) → Since now before.moment c
    → Images before c ⊎ (IsThrifty c × (IsPaidIn f → IsPaidIn c))
