-- What a run of a workload does: it makes a store, carries out the workload on it, and says what that came to.
use Rattle.std.specs.Prelude.{◌≡◌, ◌≤◌, ◌⊎◌, ℕ, List, length, take, Option, Some, None, IfSome, Ok}
use Rattle.def_crash.specs.Image.{Image}
use Rattle.def_crash.specs.Moments.{DiskView, Images, Since}
use Rattle.def_crash.specs.Trail.{At, Trail}
use Rattle.strat_io.specs.Streams.{Appends}
use Rattle.strat_model.specs.declared.ended.Ended.{Ended}
use Rattle.strat_model.specs.declared.ended.Ended.TheVariants as ended
use Rattle.strat_model.specs.declared.replies.Refusal.TheVariants as why
use Rattle.strat_model.specs.Answer.{refusal}
use Rattle.strat_model.specs.Batch.{Continuation, tables_continued}
use Rattle.strat_model.specs.Run.{Position, Transcript, IsTranscript, bodies_of}
use Rattle.strat_model.specs.Table.{Table, fresh, bare}
use Rattle.def_recovery.specs.Head.{Head}
use Rattle.def_texts.specs.Texts as texts
use Rattle.strat_report.specs.Reporting.{RecoversAs, AppendsFront}
use Rattle.def_publish.specs.Standing.{ShowsTable}
use Rattle.strat_open.specs.Following.{IsUnchanged}
use Rattle.strat_open.specs.Format.{IsBlank, IsNewStore, IsNoneOrNew, KeepsOthers}
use Rattle.strat_memory.specs.Paying.{ArePaidSince, StoreTwoSince}
use Rattle.strat_serve.specs.Generated.{workload_bodies}
use Rattle.strat_loop.specs.Session.{AreNextIn}
use Rattle.strat_loop.specs.Spoken.{FitsBothRegions}

-- the ends of a run of a workload; its frames are whole, short and few, so that none of them ends it
abbrev pub EndsWorkload : Ended → Type 0
EndsWorkload ended.Done = Unit {0}
EndsWorkload ended.NotAStore = Unit {0}
EndsWorkload ended.Device = Unit {0}
EndsWorkload ended.Sink = Unit {0}
EndsWorkload ended.NoMemory = Unit {0}
EndsWorkload (ended.Damaged block) = Unit {0}
EndsWorkload _ = ⊥

-- its ends on a disk that exposes its content
abbrev pub EndsOnExposed : Ended → Type 0
EndsOnExposed ended.Done = Unit {0}
EndsOnExposed ended.Device = Unit {0}
EndsOnExposed ended.Sink = Unit {0}
EndsOnExposed ended.NoMemory = Unit {0}
EndsOnExposed _ = ⊥

-- its ends that come after the whole workload was carried out, and after nothing else
abbrev pub EndsAfterAll : Ended → Type 0
EndsAfterAll ended.Done = Unit {0}
EndsAfterAll ended.Sink = Unit {0}
EndsAfterAll _ = ⊥

-- where a run over the store of a workload begins
abbrev pub workload_start : Position
workload_start = record { table = fresh 16777216 16384; fill = 0 }

-- a new store was made, on a disk that then followed these tables
pub record FollowsNew (before now : DiskView) (tables : List Table) (n : ℕ) : Type 0 where
  -- the moment at which it was made, and that of a sync later on
  pub made : ℕ
  pub synced : ℕ
  pub from : before.moment ≤ made
  pub later : made ≤ synced
  pub till : synced ≤ now.moment
  -- until it was made, a disk whose slots were shut is no store, or the whole new one
  pub until : IsBlank before → (m : ℕ) (c : Image) → before.moment ≤ m → m ≤ made
      → now.images_at m c → IsNoneOrNew 2 64 16777216 16384 c
  -- up to the sync a crash leaves the new store
  pub new : (m : ℕ) (c : Image) → made ≤ m → m ≤ synced → now.images_at m c
      → IsNewStore 2 64 16777216 16384 c
  -- from then on there is a trail of the tables, and each image now shows one at place n or behind it
  pub trail : Trail ShowsTable now synced tables n
  pub left : (c : Image) → Images now c → (i : ℕ) × (n ≤ i) × At tables i (ShowsTable c)
  -- each image from then on stores at most two entries for each update, and is paid for
  pub stored : StoreTwoSince now synced
  pub paid : ArePaidSince now synced

-- a store was made, and commands of a workload were carried out on it as a run of a new store's table does
pub record CarriesOutWorkload (seed count : ℕ) (how : Ended) (before now : DiskView) : Type 0 where
  pub transcript : Transcript
  pub run : IsTranscript 64 workload_start transcript
  pub region : FitsBothRegions 64 transcript
  -- the bodies that were answered are the first of the workload, and in the end all of them
  pub front : take (length (bodies_of transcript)) (workload_bodies seed count)
      ≡ bodies_of transcript
  pub all : EndsAfterAll how → (bodies_of transcript ≡ workload_bodies seed count)
      × (transcript.interruption ≡ None)
  -- and behind a fault the run is continued over those of the next ones that became durable with the last or not at all
  pub continued : Continuation 64 transcript
  pub next : AreNextIn (workload_bodies seed count) transcript continued.more
  -- only a fault of the device breaks it off, and that ends it
  pub broken : IfSome transcript.interruption
      (λ h. (h.response.answer ≡ refusal why.DeviceFault) × (how ≡ ended.Device))
  pub follows : FollowsNew before now (tables_continued transcript continued.end)
      (length transcript.exchanges)
  -- which then all images show the table after
  pub shows : EndsAfterAll how → (c : Image) → Images now c
      → ShowsTable c (bare transcript.after.table)

-- a run of a workload made no store, as no memory was found or the device failed; a disk whose slots were shut
-- is no store at any moment of it, or the whole new one
pub record MakesNoStore (how : Ended) (before now : DiskView) : Type 0 where
  pub ends : (how ≡ ended.NoMemory) ⊎ (how ≡ ended.Device)
  pub moments : IsBlank before → (c : Image) → Since now before.moment c
      → IsNoneOrNew 2 64 16777216 16384 c
  -- whatever the disk was, only what formatting writes may differ, and nothing for want of memory
  pub kept : KeepsOthers 64 before now
  pub same : how ≡ ended.NoMemory → IsUnchanged before now

-- what a run of a workload did to a disk that exposed its content
pub record LeavesWorkload (seed count : ℕ) (how : Ended) (before now : DiskView) : Type 0 where
  pub ends : EndsOnExposed how
  pub made : MakesNoStore how before now ⊎ CarriesOutWorkload seed count how before now

-- the summary of a workload, each line with its line feed
abbrev pub summary_of : Head → ℕ → ℕ → List ℕ
summary_of head seed count = texts.text (texts.summary head seed count)

-- what a run of a workload sends that ends so: the summary of what recovery finds on the disk, or, where the
-- sink fails, the front of that, and else nothing
abbrev pub SendsSummary :
    Ended → ℕ → ℕ → DiskView → Option (List ℕ) → Option (List ℕ) → Type 0
SendsSummary ended.Done seed count disk before now =
    (head : Head) × RecoversAs disk (Ok (Some head))
    × Appends before now (summary_of head seed count)
SendsSummary ended.Sink seed count disk before now =
    (head : Head) × RecoversAs disk (Ok (Some head))
    × AppendsFront before now (summary_of head seed count)
SendsSummary _ seed count disk before now = now ≡ before
