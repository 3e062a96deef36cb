-- What a leader writes, and what it leaves.
use Rattle.std.specs.Prelude.{◌≡◌, ◌⊎◌, ℕ, ◌+◌, List, [], ◌∷◌, ◌++◌, length, take, Option, Some, Ok}
use Rattle.strat_base.specs.Change.{Change}
use Rattle.def_crash.specs.Image.{Image}
use Rattle.def_crash.specs.Moments.{Exposes}
use Rattle.def_bytes.specs.SuperBlock.{Super}
use Rattle.strat_io.specs.Streams.{Appends}
use Rattle.strat_model.specs.declared.ended.Ended.{Ended}
use Rattle.strat_model.specs.declared.ended.Ended.TheVariants as ended
use Rattle.strat_model.specs.Batch.{tables_continued}
use Rattle.strat_model.specs.Run.{Position, Transcript, bodies_of}
use Rattle.strat_model.specs.Stream.{Splits}
use Rattle.strat_model.specs.Table.{Table, bare}
use Rattle.def_recovery.specs.Head.{Head}
use Rattle.def_recovery.specs.Opening.{recover}
use Rattle.def_publish.specs.Standing.{ShowsTable}
use Rattle.def_follow.specs.Log.{AreTakenFrom, table_after}
use Rattle.strat_open.specs.Following.{ChangesGateAlone, FollowsFrom}
use Rattle.strat_loop.specs.Session.{AreNextIn, Begins, GaveUp, SendsPrefix, Took}
use Rattle.strat_loop.specs.Speech.{Said, IsSpokenTranscript, SpokenContinuation}
use Rattle.strat_loop.specs.Spoken.{ServedBy}
use Rattle.strat_loop.specs.World.{World}
use Rattle.strat_follow.specs.Copying.{SendsOrFails}
use Rattle.strat_follow.specs.Leads.{leads, change_frames, AreMade}

-- the frames of the changes of a journal
abbrev pub journal_frames : Head → List ℕ
journal_frames head = change_frames head.manifest.changes head.journal

-- a leader opened a store, and the sink failed at the frames of the journal's changes
pub record StopsAtJournal (how : Ended) (before now : World) : Type 0 where
  pub ends : how ≡ ended.Sink
  pub source : now.left ≡ before.left
  pub head : Head
  pub found : (f : Image) → Exposes before.disk f → recover f ≡ Ok (Some head)
  pub cut : SendsPrefix before.held now.held (journal_frames head)
  pub calm : now.disk_faults ≡ before.disk_faults
  -- the disk is as the opening left it
  pub still : (f : Image) → Exposes before.disk f
      → (slot : ℕ) × (sb : Super) × ChangesGateAlone before.disk now.disk f slot sb
  pub follows : (f : Image) (t : Table) → Exposes before.disk f → ShowsTable f t
      → FollowsFrom before.disk now.disk f (t ∷ []) 0

-- it sent them, and then served frames as a leader
pub record LeadsOn (budget : ℕ) (how : Ended) (before now : World) : Type 0 where
  pub head : Head
  pub found : (f : Image) → Exposes before.disk f → recover f ≡ Ok (Some head)
  pub held : Option (List ℕ)
  pub sent : Appends before.held held (journal_frames head)
  pub served : ServedBy leads budget how (record before { held = held }) now

-- what a leader did: its opening gave up, or the sink failed before the first read, or it served
abbrev pub LeadOutcome : ℕ → Ended → World → World → Type 0
LeadOutcome budget how before now =
    GaveUp how before now ⊎ StopsAtJournal how before now ⊎ LeadsOn budget how before now

-- over a disk that shows a table a leader's run is one of this table; what it writes are the frames of the journal's
-- changes and of those that the run carried out, and no others, numbered from those of the manifest on
pub record LeadsTable (budget : ℕ) (how : Ended) (f : Image) (t : Table) (before now : World)
    : Type 0 where
  pub head : Head
  pub found : recover f ≡ Ok (Some head)
  pub mem : ℕ
  pub start : Position
  pub begins : Begins f mem start
  pub table : start.table ≡ t
  pub count : t.changes ≡ head.manifest.changes + length head.journal
  -- the bodies that it answered are the first of the bytes taken, as those of a leader
  pub taken : List ℕ
  pub took : Took before.left now.left taken
  pub bodies : List (List ℕ)
  pub rest : List ℕ
  pub splits : Splits taken bodies rest
  pub run : Transcript
  pub answers : List Said
  pub broken : Option Said
  pub is : IsSpokenTranscript leads mem start run answers broken
  pub front : take (length (bodies_of run)) bodies ≡ bodies_of run
  -- what it writes
  pub made : List Change
  pub are_made : AreMade run.exchanges made
  pub sends : GaveUp how before now
      ⊎ SendsOrFails how before.held now.held
      (change_frames head.manifest.changes (head.journal ++ made))
  -- which are the next changes of any log that led to its table
  pub takes : AreTakenFrom (bare t) made
  pub after : table_after (bare t) made ≡ bare run.after.table
  -- and the disk goes through the tables of the run, up to all that was answered otherwise than by a fault
  pub continued : SpokenContinuation leads mem run
  pub next : AreNextIn bodies run continued.more
  pub follows : GaveUp how before now ⊎ FollowsFrom before.disk now.disk f
      (tables_continued run continued.end) (length run.exchanges)

-- so it is with each table that its disk may show
abbrev pub LeadsTables : ℕ → Ended → World → World → Type 0
LeadsTables budget how before now = (f : Image) (t : Table) → Exposes before.disk f
    → ShowsTable f t → LeadsTable budget how f t before now
