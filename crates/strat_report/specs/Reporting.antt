-- What a report says of a store, and what it did where it ended so.
use Rattle.std.specs.Prelude.{◌≡◌, ◌≢◌, ◌≤◌, ◌<◌, ◌⊎◌, ℕ, List, [], ◌∷◌, length, take, Option, Some, None, Ok, Err}
use Rattle.def_crash.specs.Faults.{Rose}
use Rattle.def_crash.specs.Image.{Image}
use Rattle.def_crash.specs.Moments.{DiskView, Exposes}
use Rattle.def_bytes.specs.Damage.{Read}
use Rattle.strat_io.specs.Streams.{Appends}
use Rattle.strat_model.specs.declared.ended.Ended.{Ended}
use Rattle.strat_model.specs.declared.ended.Ended.TheVariants as ended
use Rattle.def_recovery.specs.Head.{Head}
use Rattle.def_recovery.specs.Opening.{recover}
use Rattle.def_texts.specs.Texts.{text, report, summary, damaged_line}

-- what a report of the levels says of what recovery finds
abbrev pub levels_text : Read (Option Head) → List ℕ
levels_text (Ok (Some head)) = text (report head)
levels_text (Ok None) = []
levels_text (Err block) = text (damaged_line block ∷ [])

-- what a summary of a workload says of what recovery finds
abbrev pub summary_text : ℕ → ℕ → Read (Option Head) → List ℕ
summary_text seed count (Ok (Some head)) = text (summary head seed count)
summary_text seed count (Ok None) = []
summary_text seed count (Err block) = []

-- how a report ends where nothing fails
abbrev pub end_for : Read (Option Head) → Ended
end_for (Ok (Some head)) = ended.Done
end_for (Ok None) = ended.NotAStore
end_for (Err block) = ended.Damaged block

-- recovery finds this on a disk, as far as it exposes its content
abbrev pub RecoversAs : DiskView → Read (Option Head) → Type 0
RecoversAs disk found = (f : Image) → Exposes disk f → recover f ≡ found

-- a sink took the front of these bytes, and not all of them
abbrev pub AppendsFront : Option (List ℕ) → Option (List ℕ) → List ℕ → Type 0
AppendsFront before now bytes =
    (n : ℕ) × (n < length bytes) × Appends before now (take n bytes)

-- a report that ends so wrote nothing
abbrev pub IsSilent : Ended → Type 0
IsSilent ended.NotAStore = Unit {0}
IsSilent ended.Device = Unit {0}
IsSilent ended.NoMemory = Unit {0}
IsSilent _ = ⊥

-- a report ended so before it wrote anything: no store was found, or the disk or memory failed
abbrev pub GivesUp : DiskView → Ended → Type 0
GivesUp disk ended.NotAStore = RecoversAs disk (Ok None)
GivesUp disk ended.Device = Unit {0}
GivesUp disk ended.NoMemory = Unit {0}
GivesUp disk _ = ⊥

-- these bytes are all that a report says of what recovery finds on a disk, which is a store or a
-- damaged block, and it is to end so
pub record IsSaid (say : Read (Option Head) → List ℕ) (disk : DiskView) (bytes : List ℕ)
    (how : Ended) : Type 0 where
  pub found : Read (Option Head)
  pub finds : RecoversAs disk found
  pub some : found ≢ Ok None
  pub spelled : bytes ≡ say found
  pub ends : how ≡ end_for found

-- what a report wrote that ended so: all that it says of what recovery finds, or, where the sink
-- failed, the front of that, or nothing
abbrev pub WritesReport :
    (Read (Option Head) → List ℕ) → DiskView → Ended
    → Option (List ℕ) → Option (List ℕ) → Type 0
WritesReport say disk ended.Done before now =
    (head : Head) × RecoversAs disk (Ok (Some head)) × Appends before now (say (Ok (Some head)))
WritesReport say disk (ended.Damaged block) before now =
    RecoversAs disk (Err block) × Appends before now (say (Err block))
WritesReport say disk ended.Sink before now =
    (found : Read (Option Head)) × RecoversAs disk found × AppendsFront before now (say found)
WritesReport say disk ended.NotAStore before now =
    RecoversAs disk (Ok None) × Appends before now (say (Ok None))
WritesReport say disk ended.Device before now = now ≡ before
WritesReport say disk ended.NoMemory before now = now ≡ before
WritesReport say disk _ before now = ⊥

-- a report ended as what recovery finds says, and wrote all that it says of that; or memory ran out
-- and it wrote nothing
abbrev pub IsComplete :
    (Read (Option Head) → List ℕ) → Read (Option Head) → Ended
    → Option (List ℕ) → Option (List ℕ) → Type 0
IsComplete say found how before now =
    ((how ≡ end_for found) × Appends before now (say found))
    ⊎ ((how ≡ ended.NoMemory) × (now ≡ before))

-- a report ended so: the disk and the sink counted a fault where it blames them, and none elsewhere
pub record ReportHasCause (how : Ended) (disk_before disk_now sink_before sink_now : ℕ)
    : Type 0 where
  pub device : how ≡ ended.Device → Rose disk_before disk_now
  pub sink : how ≡ ended.Sink → Rose sink_before sink_now
  pub disk_same : how ≢ ended.Device → disk_now ≡ disk_before
  pub sink_same : how ≢ ended.Sink → sink_now ≡ sink_before
  pub disk_later : disk_before ≤ disk_now
  pub sink_later : sink_before ≤ sink_now
