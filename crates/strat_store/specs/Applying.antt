-- How a store answers a command.
use Rattle.std.specs.Prelude.{◌≡◌, ◌≢◌, ◌≤◌, ◌⊎◌, ℕ, ◌+◌, ◌||◌, if◌then◌else◌, Bool, true, false, [], ◌∷◌, length, Option, Some, None, IfSome}
use Rattle.def_crash.specs.Faults.{Rose}
use Rattle.def_crash.specs.Image.{Image}
use Rattle.def_crash.specs.Moments.{DiskView, Exposes, OnlyReads}
use Rattle.def_crash.specs.Trail.{Trail}
use Rattle.strat_base.specs.Change.{Change}
use Rattle.strat_base.specs.Change as change
use Rattle.strat_base.specs.declared.failures.Trouble.{Trouble}
use Rattle.strat_base.specs.declared.failures.Trouble.TheVariants as trouble
use Rattle.def_bytes.specs.Arrays.{block_on}
use Rattle.strat_model.specs.declared.replies.Refusal.{Refusal}
use Rattle.strat_model.specs.declared.replies.Refusal.TheVariants as why
use Rattle.strat_model.specs.declared.replies.Reply.{Reply}
use Rattle.strat_model.specs.declared.replies.Reply.TheVariants as reply
use Rattle.strat_model.specs.Answer.{Answer, refusal, accepts}
use Rattle.strat_model.specs.Request.{Request, Put, Delete, Get, Clone, Scan, NextPairs, DropVersion}
use Rattle.strat_model.specs.Run.{IsAfter, reaches_disk, is_change, takes_memory}
use Rattle.strat_model.specs.Step.{step}
use Rattle.strat_model.specs.Table.{Table, bare}
use Rattle.def_meaning.specs.StateTable.{table_of}
use Rattle.def_publish.specs.Contents.{Contents, contents_state}
use Rattle.def_publish.specs.Standing.{ShowsTable}
use Rattle.strat_memory.specs.Held.{Held, IsOpenAt, StandsWith, arrays_held, position_with}
use Rattle.strat_cursor.specs.Cursors.{is_opened}
use Rattle.strat_cursor.specs.Looking.{LooksThrough}
use Rattle.strat_memory.specs.Memory.{Memory, IsReadyFrom, refusal_of_change, has_version}
use Rattle.strat_array.specs.Kept.{Blocks}
use Rattle.strat_memory.specs.declared.open_store.OpenStore.{OpenStore}
use Rattle.strat_memory.specs.RecoveredFields.{held_of}

-- the change that a command asks for, if it asks for one
abbrev pub change_wanted : Request → Option Change
change_wanted (Put version key value) = Some (change.Put version key value)
change_wanted (Delete version key) = Some (change.Delete version key)
change_wanted (Clone version) = Some (change.Clone version)
change_wanted (DropVersion version) = Some (change.DropVersion version)
change_wanted _ = None

-- a refusal tells of a fault: the device failed, or a block is damaged
abbrev pub tells_fault : Refusal → Bool
tells_fault why.DeviceFault = true
tells_fault (why.Damaged block) = true
tells_fault _ = false

-- a reply tells of a fault, after which a store is not to be used again
abbrev pub is_fault : Reply → Bool
is_fault (reply.Refused r) = tells_fault r
is_fault _ = false

-- a command was answered as the table says, and the store stands at a position after it, but for its cursors
pub record IsAnsweredBy (now : DiskView) (old : Held) (x : Contents) (request : Request)
    (answer : Answer) (new : Held) : Type 0 where
  pub told : answer ≡ (step (table_of (contents_state x)) request).answer
  pub going : new.spent ≡ false
  pub after : Contents
  pub stands : StandsWith now new after
  pub place : IsAfter old.log.mem (position_with old x) request (position_with new after)

-- memory ran out for a change that the table accepts, at a full journal, and nothing changed
pub record IsShortOf (now : DiskView) (old : Held) (x : Contents) (request : Request)
    (answer : Answer) (new : Held) : Type 0 where
  pub changes : is_change request ≡ true
  pub acceptable : accepts (step (table_of (contents_state x)) request).answer.reply ≡ true
  pub full : old.log.mem ≤ length old.log.list
  pub told : answer ≡ refusal why.NoMemory
  pub going : new.spent ≡ false
  pub stands : StandsWith now new x
  pub place : position_with new x ≡ position_with old x

-- a command that the table accepts met a fault of the device, and the store is not to be used again
pub record IsBrokenBy (old : Held) (x : Contents) (request : Request) (answer : Answer)
    (new : Held) : Type 0 where
  pub reached : reaches_disk request ≡ true
  pub acceptable : accepts (step (table_of (contents_state x)) request).answer.reply ≡ true
  pub told : answer ≡ refusal why.DeviceFault
  pub spent : new.spent ≡ true

-- how a store that stands with these contents may answer a command
abbrev pub IsAppliedTo : DiskView → Held → Contents → Request → Answer → Held → Type 0
IsAppliedTo now old x request answer new =
    IsAnsweredBy now old x request answer new ⊎ IsShortOf now old x request answer new
    ⊎ IsBrokenBy old x request answer new

-- a refusal says that memory ran out
abbrev pub tells_short : Refusal → Bool
tells_short why.NoMemory = true
tells_short _ = false

-- a reply says that memory ran out, so that the command was not carried out
abbrev pub ran_short : Reply → Bool
ran_short (reply.Refused r) = tells_short r
ran_short _ = false

-- a reply to a change after which a store may have written: a change was carried out, memory ran out amid a publication, or it met a fault
abbrev pub may_write : Reply → Bool
may_write reply.Done = true
may_write (reply.Made version) = true
may_write (reply.Refused r) = tells_fault r || tells_short r
may_write _ = false

-- the table that a crash may leave after a reply to a command
abbrev pub table_left : Table → Request → Reply → Table
table_left t request told = if ran_short told then t else bare (step t request).table

-- from the table of some contents the images of a disk go on to the table after a command, or stay
-- where it was not carried out
abbrev pub FollowsStep : DiskView → DiskView → Contents → Request → Answer → Type 0
FollowsStep before now x request answer = Trail ShowsTable now before.moment
    (table_of (contents_state x)
    ∷ table_left (table_of (contents_state x)) request answer.reply ∷ [])
    (if accepts answer.reply then 1 else 0)

-- over a call a count of faults rises where the reply is that the device failed, and stays elsewhere
pub record FailsAsTold (before now : ℕ) (told : Reply) : Type 0 where
  pub later : before ≤ now
  pub rose : told ≡ reply.Refused why.DeviceFault → Rose before now
  pub same : told ≢ reply.Refused why.DeviceFault → now ≡ before

-- why a get, a scan or a page of a cursor is refused for what is in memory, if it is: there is no such version, or no cursor
-- of the number
abbrev pub refusal_of_look : Memory → Request → Option Refusal
refusal_of_look m (Get version key) =
    if has_version m version then None else Some why.UnknownVersion
refusal_of_look m (Scan version lo hi limit) =
    if has_version m version then None else Some why.UnknownVersion
refusal_of_look m (NextPairs number limit) =
    if is_opened number m.cursors.opened then None else Some why.UnknownCursor
refusal_of_look m _ = None

-- a fault is told of a command alone that reaches the disk, and of no get, scan or page that memory refuses; where it asks for
-- no change a damaged block has no entries in what is exposed, and where it is a change the journal was full. Want of memory is
-- told of an opening of a cursor, or of a change at a full journal
pub record TellsTroubleOf (before : DiskView) (old : Held) (request : Request) (told : Reply)
    : Type 0 where
  pub reached : is_fault told ≡ true → reaches_disk request ≡ true
  pub unrefused : is_fault told ≡ true → refusal_of_look old.memory request ≡ None
  pub none : change_wanted request ≡ None → (b : ℕ) → told ≡ reply.Refused (why.Damaged b)
      → (f : Image) → Exposes before f → block_on f b ≡ None
  pub full : is_change request ≡ true → (b : ℕ) → told ≡ reply.Refused (why.Damaged b)
      → old.log.mem ≤ length old.log.list
  pub short : told ≡ reply.Refused why.NoMemory → (takes_memory request ≡ true)
      × (is_change request ≡ true → old.log.mem ≤ length old.log.list)

-- a look-up was answered as the table says, and the store stands as it did; or the device failed
abbrev pub IsLookedUp : DiskView → Held → Contents → Request → Answer → Type 0
IsLookedUp now new x request answer =
    ((answer ≡ (step (table_of (contents_state x)) request).answer) × StandsWith now new x)
    ⊎ ((answer ≡ refusal why.DeviceFault) × (reaches_disk request ≡ true)
    × (accepts (step (table_of (contents_state x)) request).answer.reply ≡ true))

-- a store holds what it held, but for the memory that stands ready for the next time; level 0 may be sealed, no promotion is
-- open any more, and the store may be spent
abbrev pub HoldsTheSame : Held → Held → Type 0
HoldsTheSame old new = IsReadyFrom old.sb.mem old.memory new.memory
    × (new ≡ record old { memory = new.memory; promoting = None; spent = new.spent })

-- a store stands with these contents, and a promotion that it has is on time for one change more
pub record StandsForOne (v : DiskView) (s : Held) (x : Contents) : Type 0 where
  pub stands : StandsWith v s x
  pub next : IfSome s.promoting (IsOpenAt stands.stands.content s x (length s.log.list + 1))

-- a command that asks for no change leaves the disk as it was, and the cache but for blocks that it adds as they
-- stand there; a change that memory refuses leaves all as it was, and one that it takes is told that it is done, or of want of
-- memory, which leaves all that is held, or of a fault; no change caches a block or lets go of one, and one with any reply but those after which a store may have
-- written leaves the disk as it was
pub record IsUntouched (before now : DiskView) (request : Request) (old : Held) (told : Reply)
    (new : Held) : Type 0 where
  pub looks : change_wanted request ≡ None
      → LooksThrough before now (arrays_held old.memory old.levels) old.cached new.cached
  pub refused : (c : Change) (r : Refusal) → change_wanted request ≡ Some c
      → refusal_of_change old.memory c ≡ Some r
      → (told ≡ reply.Refused r) × (new ≡ record old { spent = new.spent })
      × OnlyReads before now
  pub taken : (c : Change) → change_wanted request ≡ Some c
      → refusal_of_change old.memory c ≡ None → may_write told ≡ true
  pub short : (c : Change) → change_wanted request ≡ Some c → told ≡ reply.Refused why.NoMemory
      → HoldsTheSame old new
  pub cached : (c : Change) → change_wanted request ≡ Some c → new.cached ≡ old.cached
  pub calm : (is_change request ≡ true → may_write told ≡ false) → OnlyReads before now

-- why a command is refused that met a trouble
abbrev pub refusal_of_trouble : Trouble → Refusal
refusal_of_trouble trouble.NoMemory = why.NoMemory
refusal_of_trouble trouble.Device = why.DeviceFault
refusal_of_trouble (trouble.Damaged block) = why.Damaged block

-- a store after a reply, which may have left it unfit for use
abbrev pub held_after : OpenStore → Blocks → Reply → Held
held_after r cached told = record (held_of r cached) { spent = is_fault told }
