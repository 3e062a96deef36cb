-- What shows of a disk in memory.
use Rattle.std.specs.Prelude.{◌≡◌, ℕ, List, length, Some, Result, OnOk, OnErr}
use Rattle.def_crash.specs.Moments.{DiskView}
use Rattle.strat_disk.specs.Medium.{Medium, Leaves}
use Rattle.strat_disk.specs.PlaneView.{plane_of}
use Rattle.strat_disk.specs.History.{at_moment}
use Rattle.strat_disk.specs.declared.log.Log.{Log}
use Rattle.strat_disk.specs.declared.memory.MemDisk.{MemDisk}
use Rattle.def_crash.specs.Faults.{one_more}

-- its bytes up to the last one written
abbrev pub bytes_of : MemDisk → List ℕ
bytes_of d = d.log.present.bytes.items

-- its bytes as they read, those of the last sync, and which of them are pending
abbrev pub medium_of : MemDisk → Medium
medium_of d = plane_of d.log.present

-- the calls that fail, numbered from 1
abbrev pub failing_of : MemDisk → List ℕ
failing_of d = d.failing.items

-- the calls so far
abbrev pub calls_of : MemDisk → ℕ
calls_of d = d.calls

-- the reads among them
abbrev pub reads_of : MemDisk → ℕ
reads_of d = d.reads

-- the faults among them
abbrev pub faults_of : MemDisk → ℕ
faults_of d = d.faults

-- its content, and what a crash at each moment might leave
abbrev pub log_view : Log → DiskView
log_view l = record {
  content = Some (plane_of l.present).content;
  moment = length l.events.items;
  images_at = λ t c. Leaves (at_moment (plane_of l.first) l.events.items t) c;
}

-- the same of the disk
abbrev pub view_of : MemDisk → DiskView
view_of d = log_view d.log

-- no call was made yet, and those of this list are to fail
pub record IsUncalled (d : MemDisk) (list : List ℕ) : Type 0 where
  pub calls : calls_of d ≡ 0
  pub reads : reads_of d ≡ 0
  pub faults : faults_of d ≡ 0
  pub failing : failing_of d ≡ list

-- no call was made, and the same calls are to fail
pub record KeepsCalls (old new : MemDisk) : Type 0 where
  pub calls : calls_of new ≡ calls_of old
  pub reads : reads_of new ≡ reads_of old
  pub faults : faults_of new ≡ faults_of old
  pub failing : failing_of new ≡ failing_of old

-- one more call left this medium, or failed: then the old one and one fault more; so many reads were made so far
pub record Called {T E : Type 0} (old new : MemDisk) (medium : Medium) (count : ℕ)
    (result : Result T E) : Type 0 where
  pub calls : calls_of new ≡ one_more (calls_of old)
  pub reads : reads_of new ≡ count
  pub failing : failing_of new ≡ failing_of old
  pub ok : OnOk result (medium_of new ≡ medium)
  pub err : OnErr result (medium_of new ≡ medium_of old)
  pub faults : OnErr result (faults_of new ≡ one_more (faults_of old))
