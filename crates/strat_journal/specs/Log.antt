-- A journal in memory.
use Rattle.std.specs.Prelude.{◌≡◌, ◌≢◌, ◌⊎◌, ◌≤◌, ◌<◌, ℕ, ◌+◌, ◌-◌, ◌*◌, Bool, true, false, List, [], ◌∷◌, ◌++◌, length, map, drop, nat_lt, if◌then◌else◌, Some, Ok, IsTrue, ◌↔◌}
use Rattle.std.specs.List.{list_all}
use Rattle.strat_base.specs.Change.{Change, is_lawful}
use Rattle.def_crash.specs.Image.{Image, patch}
use Rattle.def_bytes.specs.Layout.{region_at, other_region, open_flag}
use Rattle.def_crash.specs.Moments.{DiskView, Exposes, Images, IsDurable}
use Rattle.strat_journal.specs.declared.journal.Logged.{Logged}
use Rattle.def_bytes.specs.Records.{Logged as Record, records_bytes, journal_of, journal_in_two}
use Rattle.strat_journal.specs.Records.{logged_of, journal_changes}

-- what a journal holds: how many changes a region takes, the active region, whether the other one's first
-- gate stood open when it was read, the changes that are durable, and those that become so together
pub record Log : Type 0 where
  pub mem : ℕ
  pub active : ℕ
  pub stale : Bool
  pub list : List Change
  pub batch : List Change

-- the other region's part of a journal, as a journal of its own
abbrev pub behind_log : Log → Log
behind_log log = record log { active = other_region log.active; list = drop log.mem log.list }

-- the part of a journal in the region that takes the next batch: all of it, or what stands behind a full region
abbrev pub taking : Log → Log
taking log = if nat_lt (length log.list) log.mem then log else behind_log log

-- the offset of the first closed gate after the list, where the active region has all of it
abbrev pub gate_in : Log → ℕ
gate_in log = region_at log.mem log.active + length (records_bytes log.list)

-- the offset of the gate of the next record
abbrev pub gate_of : Log → ℕ
gate_of log = gate_in (taking log)

-- how many changes more the journal takes: those for which the active region has places, or those for which the other one
-- has behind a full one, less two
abbrev pub room_of : Log → ℕ
room_of log =
    if nat_lt (length log.list) log.mem then log.mem - length log.list
    else 2 * log.mem - 2 - length log.list

-- the batch is in the list, and the next one is empty
abbrev pub batch_joined : Log → Log
batch_joined log = record log { list = log.list ++ log.batch; batch = [] }

-- the same with another list
abbrev pub with_list : List Change → Log → Log
with_list list log = record log { list = list }

-- a journal without changes
abbrev pub empty_log : ℕ → ℕ → Log
empty_log mem active = record { mem = mem; active = active; stale = false; list = []; batch = [] }

-- the region that takes the next batch: the active one while it has room, and then the other
abbrev pub batch_region : Log → ℕ
batch_region log = if nat_lt (length log.list) log.mem then log.active else other_region log.active

-- the journal goes on in the other region: what is there is its list, and the batch is as it was
abbrev pub region_turned : Log → Log
region_turned log = record log {
  active = other_region log.active;
  stale = false;
  list = drop log.mem log.list;
}

-- the same where nothing is there
abbrev pub region_begun : Log → Log
region_begun log = record log { active = other_region log.active; stale = false; list = [] }

-- every image gives the list, and where that is shorter than a region takes the first gate of the region
-- that is not active is closed
pub record Stands (v : DiskView) (log : Log) : Type 0 where
  pub given : (c : Image) → Images v c → journal_changes c log.mem log.active ≡ Ok log.list
  pub shut : (c : Image) → Images v c → length log.list < log.mem
      → c (region_at log.mem (other_region log.active)) ≢ open_flag

-- no crash leaves an open first gate in this region
abbrev pub IsRegionShut : DiskView → ℕ → ℕ → Type 0
IsRegionShut v mem region = (c : Image) → Images v c → c (region_at mem region) ≢ open_flag

-- an image gives the journal of one that a crash might have left before, wherever that leaves room in this region
abbrev pub KeepsShortJournal : DiskView → ℕ → ℕ → Image → Type 0
KeepsShortJournal v mem active c = (d : Image) × Images v d
    × ((logged : List Record) → length logged < mem → journal_of d mem active ≡ Ok logged
    → journal_of c mem active ≡ Ok logged)

-- no crash leaves anything else in the other region than what the list has behind a full one
abbrev pub GivesLater : DiskView → Log → Type 0
GivesLater v log = (c : Image) → Images v c
    → journal_changes c log.mem (other_region log.active) ≡ Ok (drop log.mem log.list)

-- an image gives the list, or the list with the whole batch after it
abbrev pub GivesAllOrNone : Log → Image → Type 0
GivesAllOrNone log c =
    (journal_changes c log.mem log.active ≡ Ok log.list)
    ⊎ (journal_changes c log.mem log.active ≡ Ok (log.list ++ log.batch))

-- the batch's records and a closed gate were written over the content after the list, and are durable
pub record HoldsBatch (old new : DiskView) (log : Log) : Type 0 where
  pub content : (f : Image) → Exposes old f
      → new.content ≡ Some (patch f (gate_of log) (records_bytes log.batch ++ 0 ∷ []))
  pub settled : IsDurable new

-- a journal that may take its batch: the changes are lawful, and find room where they go
pub record HasRoomToAppend (log : Log) : Type 0 where
  pub list_fits : list_all is_lawful (taking log).list ≡ true
  pub batch_fits : list_all is_lawful log.batch ≡ true
  pub few : length (taking log).list + length log.batch ≤ log.mem
  pub active_most : log.active ≤ 1

-- a journal whose list are these changes in their order, two fewer than both regions have places for, or less
pub record Restores (mem active : ℕ) (logged : List Logged) (log : Log) : Type 0 where
  pub mem_is : log.mem ≡ mem
  pub active_is : log.active ≡ active
  pub list_is : log.list ≡ map (λ l. l.change) logged
  pub batch_is : log.batch ≡ []
  pub few : length log.list ≤ 2 * mem - 2

-- so many changes leave room in the active region, and the other one's first gate is open
abbrev pub IsStale : Image → ℕ → ℕ → ℕ → Type 0
IsStale f mem active count = (count < mem) × (f (region_at mem (other_region active)) ≡ open_flag)

-- these records and this journal are what recovery reads of an image
pub record RecoversTo (f : Image) (mem active : ℕ) (logged : List Logged) (log : Log) : Type 0 where
  pub records : journal_in_two f mem active ≡ Ok (map logged_of logged)
  pub changes : journal_changes f mem active ≡ Ok log.list
  pub stale : IsTrue log.stale ↔ IsStale f mem active (length log.list)
