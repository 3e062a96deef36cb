-- How a store with open cursors answers a command.
use Rattle.std.specs.Prelude.{◌≡◌, ◌≤◌, ◌⊎◌, ℕ, Bool, true, false, if◌then◌else◌, List, length, Contains, Option, Some, None, Result, Ok, Err}
use Rattle.strat_base.specs.Change.{Change}
use Rattle.strat_base.specs.declared.descriptors.ArrayDesc.{ArrayDesc}
use Rattle.strat_base.specs.declared.descriptors.LevelDesc.{LevelDesc}
use Rattle.def_crash.specs.Moments.{DiskView}
use Rattle.strat_cursor.specs.Cursors.{closed_at, moved_at}
use Rattle.strat_cursor.specs.Held.{HeldCursors}
use Rattle.strat_cursor.specs.declared.cursors.CursorFault.{CursorFault}
use Rattle.strat_cursor.specs.declared.cursors.CursorFault.TheVariants as start_fault
use Rattle.strat_cursor.specs.declared.cursors.NextFault.{NextFault}
use Rattle.strat_cursor.specs.declared.cursors.NextFault.TheVariants as next_fault
use Rattle.strat_model.specs.Answer.{Answer, accepts, refusal}
use Rattle.strat_model.specs.Pairs.{Pairs}
use Rattle.strat_model.specs.Request.{Request, OpenCursor, NextPairs, CloseCursor}
use Rattle.strat_model.specs.Run.{IsAfter, reaches_disk, is_change, takes_memory}
use Rattle.strat_model.specs.Step.{step}
use Rattle.strat_model.specs.Table.{Cursor}
use Rattle.strat_model.specs.declared.replies.Refusal.TheVariants as why
use Rattle.strat_model.specs.declared.replies.Reply.{Reply}
use Rattle.strat_model.specs.declared.replies.Reply.TheVariants as reply
use Rattle.def_publish.specs.Contents.{Contents}
use Rattle.strat_store.specs.Applying.{change_wanted}
use Rattle.strat_memory.specs.Held.{Held, StandsAt, arrays_held, position_at, table_at}
use Rattle.strat_memory.specs.Memory.{Memory, cursor_from, with_cursor}
use Rattle.strat_publish.specs.Settling.{HasPublished, KeepsCursors}

-- what is told of an opening of a cursor, of a page, and of a closing
abbrev pub reply_of_start : Result ℕ CursorFault → Reply
reply_of_start (Ok number) = reply.Opened number
reply_of_start (Err start_fault.CursorLimit) = reply.Refused why.CursorLimit
reply_of_start (Err start_fault.NoMemory) = reply.Refused why.NoMemory

abbrev pub reply_of_next : Result Bool NextFault → Reply
reply_of_next (Ok more) = reply.Pairs more
reply_of_next (Err next_fault.UnknownCursor) = reply.Refused why.UnknownCursor
reply_of_next (Err next_fault.Device) = reply.Refused why.DeviceFault
reply_of_next (Err (next_fault.Damaged block)) = reply.Refused (why.Damaged block)

abbrev pub reply_of_close : Bool → Reply
reply_of_close there = if there then reply.Done else reply.Refused why.UnknownCursor

-- a command that is about a cursor
abbrev pub is_of_cursor : Request → Bool
is_of_cursor (OpenCursor version lo hi) = true
is_of_cursor (NextPairs number limit) = true
is_of_cursor (CloseCursor number) = true
is_of_cursor _ = false

-- cursors after a page of the one of a number was told, or was refused
abbrev pub paged_at : ℕ → Reply → Pairs → HeldCursors → HeldCursors
paged_at number (reply.Pairs more) told c =
    record c { opened = moved_at number more told c.opened }
paged_at number _ told c = c

-- the cursors of a store after a command that asks for no change was answered so
abbrev pub cursors_after : Memory → List (Option LevelDesc) → Request → Answer → HeldCursors
cursors_after m levels (OpenCursor version lo hi) answer =
    if accepts answer.reply then with_cursor m.cursors (cursor_from m levels version lo hi)
    else m.cursors
cursors_after m levels (NextPairs number limit) answer =
    paged_at number answer.reply answer.pairs m.cursors
cursors_after m levels (CloseCursor number) answer =
    if accepts answer.reply then closed_at number m.cursors else m.cursors
cursors_after m levels _ answer = m.cursors

-- what a command leaves of a store's cursors: one that asks for no change leaves all as it was but for them and for blocks that
-- are cached, and a change leaves them, or they are those that a publication left. No array is kept for them that was not held
-- before
pub record LeavesCursors (old : Held) (request : Request) (answer : Answer) (new : Held)
    : Type 0 where
  pub looked : change_wanted request ≡ None → new ≡ record old {
    memory = record old.memory { cursors = cursors_after old.memory old.levels request answer };
    cached = new.cached;
    spent = new.spent;
  }
  pub changed : (c : Change) → change_wanted request ≡ Some c
      → KeepsCursors old new ⊎ HasPublished old new
  pub retired : (a : ArrayDesc) → Contains new.memory.cursors.retired a
      → Contains (arrays_held old.memory old.levels) a

-- a command was answered as the table with the cursors says, and the store stands at a position after it
pub record IsAnsweredAt (now : DiskView) (old : Held) (x : Contents) (rows : List Cursor)
    (request : Request) (answer : Answer) (new : Held) : Type 0 where
  pub told : answer ≡ (step (table_at old x rows) request).answer
  pub going : new.spent ≡ false
  pub after : Contents
  pub left : List Cursor
  pub stands : StandsAt now new after left
  pub place : IsAfter old.log.mem (position_at old x rows) request (position_at new after left)

-- memory ran out for a command that the table accepts, an opening of a cursor or a change at a full journal, and nothing
-- changed
pub record IsShortAt (now : DiskView) (old : Held) (x : Contents) (rows : List Cursor)
    (request : Request) (answer : Answer) (new : Held) : Type 0 where
  pub takes : takes_memory request ≡ true
  pub acceptable : accepts (step (table_at old x rows) request).answer.reply ≡ true
  pub full : is_change request ≡ true → old.log.mem ≤ length old.log.list
  pub told : answer ≡ refusal why.NoMemory
  pub going : new.spent ≡ false
  pub stands : StandsAt now new x rows
  pub place : position_at new x rows ≡ position_at old x rows

-- a command that the table accepts met a fault of the device, and the store is not to be used again
pub record IsBrokenAt (old : Held) (x : Contents) (rows : List Cursor) (request : Request)
    (answer : Answer) (new : Held) : Type 0 where
  pub reached : reaches_disk request ≡ true
  pub acceptable : accepts (step (table_at old x rows) request).answer.reply ≡ true
  pub told : answer ≡ refusal why.DeviceFault
  pub spent : new.spent ≡ true

-- how a store that stands with these contents and cursors may answer a command
abbrev pub IsAppliedAt : DiskView → Held → Contents → List Cursor → Request → Answer → Held → Type 0
IsAppliedAt now old x rows request answer new =
    IsAnsweredAt now old x rows request answer new ⊎ IsShortAt now old x rows request answer new
    ⊎ IsBrokenAt old x rows request answer new
