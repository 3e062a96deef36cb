-- Changes that wait to become durable together.
use Rattle.std.specs.Prelude.{◌≡◌, ◌≤◌, ◌<◌, ◌+◌, ◌&&◌, nat_lt, is_none, Bool, true, false, if◌then◌else◌, List, [], ◌∷◌, ◌++◌, length, Option, Some, None, slice_get}
use Rattle.strat_base.specs.Change.{Change, Clone}
use Rattle.strat_base.specs.Tree.{Parents}
use Rattle.def_crash.specs.Moments.{DiskView}
use Rattle.def_crash.specs.Trail.{Trail}
use Rattle.strat_cursor.specs.Looking.{AreOfOldArrays}
use Rattle.strat_journal.specs.Log.{Log, batch_joined}
use Rattle.strat_model.specs.Answer.{plain}
use Rattle.strat_model.specs.Request.{Request}
use Rattle.strat_model.specs.Run.{IsAfter, Position, is_carried_out}
use Rattle.strat_model.specs.Step.{step}
use Rattle.strat_model.specs.Table.{Cursor}
use Rattle.strat_model.specs.declared.replies.Refusal.TheVariants as why
use Rattle.strat_model.specs.declared.replies.Reply.{Reply}
use Rattle.strat_model.specs.declared.replies.Reply.TheVariants as reply
use Rattle.def_recovery.specs.Head.{head_versions}
use Rattle.def_meaning.specs.StateTable.{table_of}
use Rattle.def_publish.specs.Appending.{with_batch}
use Rattle.def_publish.specs.Contents.{Contents, contents_state}
use Rattle.def_publish.specs.Standing.{ShowsTable}
use Rattle.def_state.specs.State.{tree_after}
use Rattle.strat_memory.specs.Held.{Held, IsConsistent, StandsAt, head_held, position_at}
use Rattle.strat_memory.specs.Memory.{memory_after, refusal_of_change}
use Rattle.strat_store.specs.Applying.{change_wanted}

-- a store whose staged changes are in its journal's list
abbrev pub held_joined : Held → Held
held_joined s = record s { log = batch_joined s.log }

-- what is staged finds room in the active region, behind its list
abbrev pub HasRoomForStaged : Log → Type 0
HasRoomForStaged log = 0 < length log.batch → length log.list + length log.batch ≤ log.mem

-- a store with staged changes, sixteen at most, holds what an opening may find once they are durable, in the active region
pub record IsStaged (s : Held) : Type 0 where
  pub whole : IsConsistent (held_joined s)
  pub few : length s.log.batch ≤ 16
  pub room : HasRoomForStaged s.log
  pub cached : AreOfOldArrays s.chained.manifest.next_array s.cached

-- a journal has a place for one more: its batch has fewer than sixteen changes, and the active region has room behind them
abbrev pub has_place : Log → Bool
has_place log =
    nat_lt (length log.batch) 16 && nat_lt (length log.list + length log.batch) log.mem

-- this change may be staged: there is a place, and memory, which has taken those that are staged, does not refuse it
abbrev pub takes_staged : Held → Option Change → Bool
takes_staged s None = false
takes_staged s (Some c) = has_place s.log && is_none (refusal_of_change s.memory c)

-- a command may be staged
abbrev pub may_stage : Held → Request → Bool
may_stage s request = takes_staged s (change_wanted request)

-- a store with one more change staged, which is last in the journal's batch, and which memory took
abbrev pub with_staged : Held → Change → Held
with_staged s c = record s {
  log = record s.log { batch = s.log.batch ++ c ∷ [] };
  memory = memory_after s.memory c;
}

-- what is told of a change that is made over a tree
abbrev pub reply_over : Parents → Change → Reply
reply_over parents (Clone version) = reply.Made (length parents)
reply_over parents change = reply.Done

-- and of changes one after the other
abbrev pub replies_over : Parents → List Change → List Reply
replies_over parents [] = []
replies_over parents (c ∷ batch) =
    reply_over parents c ∷ replies_over (tree_after parents c) batch

-- the replies to the staged changes of a store, in order
abbrev pub replies_staged : Held → List Reply
replies_staged s = replies_over (head_versions (head_held s)) s.log.batch

-- where a store that stands with contents and cursors is in a run, its staged changes being carried out
abbrev pub position_staged : Held → Contents → List Cursor → Position
position_staged s x rows = position_at (held_joined s) (with_batch x s.log.batch) rows

-- a command was staged at a store that stands: it is a change that the table carries out, and the reply that is kept for it is
-- what the table tells; the store stands as it did, at the position after it once the staged changes are carried out
pub record IsStagedAt (now : DiskView) (old : Held) (x : Contents) (rows : List Cursor)
    (request : Request) (new : Held) : Type 0 where
  pub carried : is_carried_out (position_staged old x rows) request ≡ true
  pub told : Reply
  pub kept : slice_get (replies_staged new) (length old.log.batch) ≡ Some told
  pub answer : (step (position_staged old x rows).table request).answer ≡ plain told
  pub stands : StandsAt now new x rows
  pub place : IsAfter old.log.mem (position_staged old x rows) request
      (position_staged new x rows)

-- from the table of some contents the images of a disk go on to the table after all of a batch, where it became durable, or
-- stay, and then may be either
abbrev pub FollowsBatch : DiskView → DiskView → Contents → List Change → Bool → Type 0
FollowsBatch before now x batch done = Trail ShowsTable now before.moment
    (table_of (contents_state x) ∷ table_of (contents_state (with_batch x batch)) ∷ [])
    (if done then 1 else 0)

-- what is told of a batch that became durable, or of one at which the device failed
abbrev pub reply_of_commit : Bool → Reply
reply_of_commit done = if done then reply.Done else reply.Refused why.DeviceFault
