-- What the program does for its arguments.
use Rattle.std.specs.Prelude.{◌≡◌, ◌≢◌, ◌⊎◌, ℕ, ◌==◌, if◌then◌else◌, List, [], ◌∷◌, ◌++◌, Option, Some, None, Ok, Err, codes}
use Rattle.def_bytes.specs.Damage.{Read}
use Rattle.def_crash.specs.Image.{Image}
use Rattle.def_crash.specs.Moments.{DiskView, Exposes, OnlyReads, Since}
use Rattle.def_bytes.specs.SuperBlock.{newest_in}
use Rattle.strat_io.specs.Streams.{Appends}
use Rattle.strat_model.specs.declared.ended.Ended.{Ended}
use Rattle.strat_model.specs.declared.ended.Ended.TheVariants as ended
use Rattle.strat_model.specs.Ended.{status_of}
use Rattle.strat_model.specs.Table.{Table}
use Rattle.def_recovery.specs.Head.{Head}
use Rattle.def_recovery.specs.Opening.{recover}
use Rattle.def_publish.specs.Standing.{ShowsTable}
use Rattle.def_texts.specs.Texts as texts
use Rattle.strat_open.specs.Format.{IsNewDisk, IsBlank, IsNoneOrNew, KeepsOthers}
use Rattle.strat_loop.specs.Session.{SendsPrefix, RefusesFor, EndHasCause, ExposesDamage}
use Rattle.strat_serve.specs.Serving.{RunOutcome}
use Rattle.strat_loop.specs.World.{World, IsCalm}
use Rattle.def_crash.specs.Faults.{Rose}
use Rattle.def_check.specs.Checked.{checked}
use Rattle.strat_report.specs.Checking.{EndsCheck, SaysCheck, WritesCheck}
use Rattle.strat_report.specs.Reporting.{levels_text, WritesReport, IsComplete}
use Rattle.strat_loop.specs.Spoken.{SpokenOutcome}
use Rattle.strat_follow.specs.Copying.{CopiesLogs}
use Rattle.strat_follow.specs.Follows.{follows}
use Rattle.strat_follow.specs.Leading.{LeadOutcome, LeadsTables}
use Rattle.castle.specs.Arguments.{Subcommand, Serve, Format, Levels, Check, Workload, Lead, Follow, Export}
use Rattle.castle.specs.Exporting.{ExportsVersion}
use Rattle.castle.specs.Working.{EndsWorkload, LeavesWorkload, SendsSummary}

-- a run ended as its input does, or at the budget, or before it began for want of memory
abbrev pub EndsAsInput : ℕ → Type 0
EndsAsInput status = (status ≡ 0) ⊎ (status ≡ 3) ⊎ (status ≡ 4) ⊎ (status ≡ 8) ⊎ (status ≡ 10)

-- where nothing failed, a serving run ends as what an opening finds says: as its input does or at a
-- block of an array that is damaged, as no store, or as damaged; or out of memory
abbrev pub EndsAsFound : Read (Option Head) → ℕ → Type 0
EndsAsFound (Ok (Some head)) status = EndsAsInput status ⊎ (status ≡ 9)
EndsAsFound (Ok None) status = (status ≡ 2) ⊎ (status ≡ 8)
EndsAsFound (Err block) status = (status ≡ 9) ⊎ (status ≡ 8)

-- a run that serves ended so: it served the store on the disk, or gave up before it read; where
-- nothing failed it ended as the content says, and as its input does where that shows a table
pub record ServesFrames (budget : ℕ) (how : Ended) (before now : World) : Type 0 where
  pub outcome : RunOutcome budget how before now
  pub refuses : RefusesFor how before.disk now.disk
  pub cause : EndHasCause how before now
  pub complete : IsCalm before now → (f : Image) → Exposes before.disk f
      → EndsAsFound (recover f) (status_of how)
  pub sound : IsCalm before now → (f : Image) (t : Table) → Exposes before.disk f
      → ShowsTable f t → EndsAsInput (status_of how)

-- a run that leads ended so: it sent the changes of its journal and served the store on the disk, or stopped before that;
-- over each table that the disk shows it is a run of that table, and sends the changes that it carries out
pub record LeadsFollowers (budget : ℕ) (how : Ended) (before now : World) : Type 0 where
  pub outcome : LeadOutcome budget how before now
  pub leads : LeadsTables budget how before now
  pub refuses : RefusesFor how before.disk now.disk
  pub cause : EndHasCause how before now
  pub complete : IsCalm before now → (f : Image) → Exposes before.disk f
      → EndsAsFound (recover f) (status_of how)
  pub sound : IsCalm before now → (f : Image) (t : Table) → Exposes before.disk f
      → ShowsTable f t → EndsAsInput (status_of how)

-- a run that follows ended so: it carried out changes on the store on the disk and answered each body with a receipt, or
-- gave up before it read; it keeps to each log of which the disk has a prefix and its frames hold the changes
pub record FollowsLeader (budget : ℕ) (how : Ended) (before now : World) : Type 0 where
  pub outcome : SpokenOutcome follows budget how before now
  pub copies : CopiesLogs how before now
  pub refuses : RefusesFor how before.disk now.disk
  pub cause : EndHasCause how before now
  pub complete : IsCalm before now → (f : Image) → Exposes before.disk f
      → EndsAsFound (recover f) (status_of how)
  pub sound : IsCalm before now → (f : Image) (t : Table) → Exposes before.disk f
      → ShowsTable f t → EndsAsInput (status_of how)

-- the line that formatting prints, with its line feed
abbrev pub format_text : ℕ → ℕ → ℕ → List ℕ
format_text mem changes_max versions_max =
    texts.text (texts.format_line mem changes_max versions_max ∷ [])

-- what is sent by a run that formats and ends so
abbrev pub SendsLine : Ended → Option (List ℕ) → Option (List ℕ) → List ℕ → Type 0
SendsLine ended.Done before now line = Appends before now line
SendsLine ended.Sink before now line = SendsPrefix before now line
SendsLine ended.Device before now line = now ≡ before
SendsLine ended.NoMemory before now line = now ≡ before
SendsLine _ before now line = ⊥

-- the ends of a run that formats which leave a new store
abbrev pub Formats : Ended → Type 0
Formats ended.Done = Unit {0}
Formats ended.Sink = Unit {0}
Formats _ = ⊥

-- a run that formats ended so: it made a new store and said so, or found no memory, or the disk
-- or the sink failed
pub record FormatsDisk (mem changes_max versions_max : ℕ) (how : Ended) (before now : World)
    : Type 0 where
  pub sends : SendsLine how before.held now.held (format_text mem changes_max versions_max)
  pub left : Formats how → (f : Image) → Exposes before.disk f
      → IsNewDisk 2 mem changes_max versions_max now.disk
  -- on the way a disk whose slots were shut is no store, or the whole new one
  pub moments : (f : Image) → Exposes before.disk f → IsBlank before.disk
      → (c : Image) → Since now.disk before.disk.moment c
      → IsNoneOrNew 2 mem changes_max versions_max c
  -- and it writes the slots, the first gates of the regions and the manifest's block alone
  pub kept : KeepsOthers mem before.disk now.disk
  pub cause : EndHasCause how before now
  pub calm : how ≢ ended.Device → now.disk_faults ≡ before.disk_faults
  pub complete : ¬ Rose before.sink_faults now.sink_faults
      → ¬ Rose before.disk_faults now.disk_faults
      → (status_of how ≡ 0) ⊎ (status_of how ≡ 8)

-- a run that reports the levels of a store ended so: it said what recovery finds, and left the disk as it was;
-- where nothing failed it ended as the content says, and said all of that
pub record ReportsLevels (how : Ended) (before now : World) : Type 0 where
  pub writes : WritesReport levels_text before.disk how before.held now.held
  pub same : OnlyReads before.disk now.disk
  pub none : how ≡ ended.NotAStore → (f : Image) → Exposes before.disk f → newest_in f ≡ Ok None
  pub cause : EndHasCause how before now
  pub complete : IsCalm before now → (f : Image) → Exposes before.disk f
      → IsComplete levels_text (recover f) how before.held now.held

-- a run that checks a store ended so: it said whether the state that the bytes read as is sound, or which rule it breaks
-- first, or which block is damaged, and left the disk as it was; where nothing failed it said all of that
pub record ChecksStore (how : Ended) (before now : World) : Type 0 where
  pub ends : EndsCheck how
  pub writes : (f : Image) → Exposes before.disk f
      → WritesCheck (checked f) how before.held now.held
  pub same : OnlyReads before.disk now.disk
  pub cause : EndHasCause how before now
  pub complete : IsCalm before now → (f : Image) → Exposes before.disk f
      → SaysCheck (checked f) how before.held now.held

-- a run of a workload ended so: it made a store, carried out the workload and said what it came to, or the
-- store, the disk or the sink gave up
pub record RunsWorkload (seed count : ℕ) (how : Ended) (before now : World) : Type 0 where
  pub ends : EndsWorkload how
  pub left : (f : Image) → Exposes before.disk f
      → LeavesWorkload seed count how before.disk now.disk
  pub sends : SendsSummary how seed count now.disk before.held now.held
  pub cause : EndHasCause how before now
  pub complete : IsCalm before now → (f : Image) → Exposes before.disk f
      → (status_of how ≡ 0) ⊎ (status_of how ≡ 8)

-- the program ended with this status, having done what it was asked to do; arguments that name no
-- subcommand are refused
abbrev pub Runs : Option Subcommand → ℕ → ℕ → World → World → Type 0
Runs None budget status before now = status ≡ 1
Runs (Some (Serve path)) budget status before now =
    (how : Ended) × (status ≡ status_of how) × ServesFrames budget how before now
Runs (Some (Format path mem changes_max versions_max)) budget status before now =
    (how : Ended) × (status ≡ status_of how)
    × FormatsDisk mem changes_max versions_max how before now
Runs (Some (Levels path)) budget status before now =
    (how : Ended) × (status ≡ status_of how) × ReportsLevels how before now
Runs (Some (Check path)) budget status before now =
    (how : Ended) × (status ≡ status_of how) × ChecksStore how before now
Runs (Some (Workload path seed count)) budget status before now =
    (how : Ended) × (status ≡ status_of how) × RunsWorkload seed count how before now
Runs (Some (Lead path)) budget status before now =
    (how : Ended) × (status ≡ status_of how) × LeadsFollowers budget how before now
Runs (Some (Follow path)) budget status before now =
    (how : Ended) × (status ≡ status_of how) × FollowsLeader budget how before now
Runs (Some (Export path version)) budget status before now =
    (how : Ended) × (status ≡ status_of how) × ExportsVersion version how before now

-- a run on this disk ended before it read or wrote anything but the disk: with no store, out of
-- memory, or with a damaged block where recovery finds one
abbrev pub IsEarly : DiskView → ℕ → Type 0
IsEarly before status =
    (status ≡ 2) ⊎ (status ≡ 8) ⊎ ((status ≡ 9) × ExposesDamage before)

-- what a run leaves as it was, of a source, a sink and a disk: all of it where the arguments name
-- no subcommand
abbrev pub LeavesAlone :
    Option Subcommand → DiskView → ℕ → Type 0 → Type 0 → Type 0 → Type 0
LeavesAlone None before status source sink disk = source × sink × disk
LeavesAlone (Some (Serve path)) before status source sink disk =
    IsEarly before status → source × sink
LeavesAlone (Some (Format path mem changes_max versions_max)) before status source sink disk =
    source × ((status ≡ 2) ⊎ (status ≡ 8) ⊎ (status ≡ 9) → sink) × (status ≡ 8 → disk)
LeavesAlone (Some (Levels path)) before status source sink disk =
    source × ((status ≡ 2) ⊎ (status ≡ 5) ⊎ (status ≡ 8) → sink)
LeavesAlone (Some (Check path)) before status source sink disk =
    source × ((status ≡ 2) ⊎ (status ≡ 5) ⊎ (status ≡ 8) → sink)
LeavesAlone (Some (Workload path seed count)) before status source sink disk =
    source × ((status ≡ 2) ⊎ (status ≡ 5) ⊎ (status ≡ 8) → sink)
LeavesAlone (Some (Lead path)) before status source sink disk =
    IsEarly before status → source × sink
LeavesAlone (Some (Follow path)) before status source sink disk =
    IsEarly before status → source × sink
LeavesAlone (Some (Export path version)) before status source sink disk =
    source × ((status ≡ 2) ⊎ (status ≡ 8) ⊎ (status ≡ 12) → sink)

-- the forms of the program's arguments
abbrev pub usage_text : List ℕ
usage_text =
    codes "usage: castle format FILE M C V, serve FILE, levels FILE, check FILE, "
    ++ codes "workload FILE SEED COUNT, lead FILE, follow FILE, export FILE VERSION"

-- what a status means
abbrev pub text_of : ℕ → List ℕ
text_of status =
    if status == 0 then codes "done" else
    if status == 1 then usage_text else
    if status == 2 then codes "not a store" else
    if status == 3 then codes "frame too long" else
    if status == 4 then codes "truncated input" else
    if status == 5 then codes "device fault" else
    if status == 6 then codes "source fault" else
    if status == 7 then codes "sink fault" else
    if status == 8 then codes "no memory" else
    if status == 9 then codes "damaged" else
    if status == 10 then codes "byte budget" else
    if status == 11 then codes "unsound" else
    if status == 12 then codes "unknown version" else codes "unknown status"
