-- What a follower leaves and answers whose frames hold the changes of one log.
use Rattle.std.specs.Prelude.{◌≡◌, ◌<◌, ◌⊎◌, ℕ, List, Option}
use Rattle.std.specs.List.{flat_map, AllByRecursion}
use Rattle.strat_base.specs.Change.{Change}
use Rattle.def_crash.specs.Faults.{Rose}
use Rattle.def_crash.specs.Image.{Image}
use Rattle.def_crash.specs.Moments.{Exposes, Images, Since}
use Rattle.strat_io.specs.Streams.{Appends}
use Rattle.strat_model.specs.declared.ended.Ended.{Ended}
use Rattle.strat_model.specs.declared.ended.Ended.TheVariants as ended
use Rattle.strat_model.specs.declared.replies.Refusal.{Refusal}
use Rattle.strat_model.specs.declared.replies.Refusal.TheVariants as why
use Rattle.strat_model.specs.Stream.{Splits}
use Rattle.strat_model.specs.Table.{Table}
use Rattle.def_publish.specs.Standing.{ShowsTable}
use Rattle.def_follow.specs.Following.{Receipt, Taken, Refused, receipt_frame}
use Rattle.def_follow.specs.Keeping.{IsOfLogAt}
use Rattle.def_follow.specs.Log.{IsLog, IsOfLog}
use Rattle.def_follow.specs.OnDisk.{EachOfLog, ShowsOfLog}
use Rattle.strat_loop.specs.Session.{SendsPrefix, Took}
use Rattle.strat_loop.specs.World.{World}

-- a sink was sent these bytes, or where it failed a front of them
abbrev pub SendsOrFails : Ended → Option (List ℕ) → Option (List ℕ) → List ℕ → Type 0
SendsOrFails ended.Sink before now bytes = SendsPrefix before now bytes
SendsOrFails _ before now bytes = Appends before now bytes

-- an image shows the table after a prefix of a log that has each change which was answered as taken
pub record ShowsTaken (changes_max versions_max : ℕ) (log : List Change)
    (receipts : List Receipt) (c : Image) : Type 0 where
  pub table : Table
  pub shows : ShowsTable c table
  pub of_log : IsOfLog changes_max versions_max log table
  pub holds : AllByRecursion (λ r. r.fate ≡ Taken → r.number < of_log.place) receipts

-- why a change of a log may be refused: memory ran out, or the device failed, which the disk counted
abbrev pub MayRefuse : World → World → Refusal → Type 0
MayRefuse before now cause = (cause ≡ why.NoMemory)
    ⊎ ((cause ≡ why.DeviceFault) × Rose before.disk_faults now.disk_faults)

-- a follower answered with these receipts; what a crash leaves at each moment shows the table after a prefix of the log, and
-- at the end a prefix with each change that was answered as taken
pub record KeepsToLog (changes_max versions_max : ℕ) (log : List Change) (how : Ended)
    (before now : World) : Type 0 where
  pub receipts : List Receipt
  pub sends : SendsOrFails how before.held now.held (flat_map receipt_frame receipts)
  pub free : AllByRecursion
      (λ r. (cause : Refusal) → r.fate ≡ Refused cause → MayRefuse before now cause) receipts
  pub images : (c : Image) → Since now.disk before.disk.moment c
      → ShowsOfLog changes_max versions_max log c
  pub left : (c : Image) → Images now.disk c
      → ShowsTaken changes_max versions_max log receipts c

-- a follower took these bytes, and keeps to a log wherever each body in them that spells a numbered change spells one of it
pub record CopiesLog (changes_max versions_max : ℕ) (log : List Change) (how : Ended)
    (before now : World) : Type 0 where
  pub taken : List ℕ
  pub took : Took before.left now.left taken
  pub bodies : List (List ℕ)
  pub rest : List ℕ
  pub splits : Splits taken bodies rest
  pub keeps : AllByRecursion (IsOfLogAt log) bodies
      → KeepsToLog changes_max versions_max log how before now

-- it does so for each log of which the disk has a prefix, whatever crash comes; the prefix may differ from image to image
abbrev pub CopiesLogs : Ended → World → World → Type 0
CopiesLogs how before now = (f : Image) (changes_max versions_max : ℕ) (log : List Change)
    → Exposes before.disk f → IsLog changes_max versions_max log
    → EachOfLog changes_max versions_max log before.disk
    → CopiesLog changes_max versions_max log how before now
