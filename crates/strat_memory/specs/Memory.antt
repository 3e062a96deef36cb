-- What a store has in memory of its versions and of level 0, and what changes do to it.
use Rattle.std.specs.Prelude.{◌≡◌, ◌≤◌, ◌⊎◌, ℕ, ◌+◌, ◌-◌, ◌==◌, Bool, true, false, not, if◌then◌else◌, List, [], ◌∷◌, ◌++◌, length, take, slice_set, Option, Some, None, option_map, IfSome}
use Rattle.std.specs.Option.{option_map_or}
use Rattle.strat_base.specs.Change.{Change, Put, Delete, Clone, DropVersion}
use Rattle.strat_base.specs.Entries.{Entry}
use Rattle.strat_base.specs.Tree.{Parents, parent_of, depth, with_child}
use Rattle.strat_base.specs.declared.descriptors.LevelDesc.{LevelDesc}
use Rattle.strat_base.specs.declared.descriptors.ArrayDesc.{ArrayDesc}
use Rattle.strat_cursor.specs.Cursors.{retired_all}
use Rattle.def_crash.specs.Image.{Image}
use Rattle.strat_cursor.specs.Held.{AreRowsOf, HeldCursor, HeldCursors, no_cursors}
use Rattle.strat_model.specs.Table.{Cursor, Table}
use Rattle.strat_model.specs.declared.replies.Refusal.{Refusal}
use Rattle.strat_model.specs.declared.replies.Refusal.TheVariants as why
use Rattle.strat_model.specs.declared.replies.Reply.{Reply}
use Rattle.strat_model.specs.declared.replies.Reply.TheVariants as reply
use Rattle.def_recovery.specs.Head.{Head, head_versions, head_updates, head_changes, head_marks}
use Rattle.def_slice.specs.Lists.{lists_read, HoldLists}
use Rattle.def_state.specs.Setting.{set_entry}
use Rattle.def_meaning.specs.StateTable.{table_of}
use Rattle.def_state.specs.State.{State}
use Rattle.strat_cursor.specs.Looking.{arrays_asked}
use Rattle.strat_base.specs.Marks.{Marks, has_living_child}
use Rattle.def_state.specs.Sound.{is_there}

-- a sealed level 0: its entries in their order, and how many versions there were, which of them were dropped, and how many
-- updates and changes had been accepted, when it was sealed
pub record SealedLevel : Type 0 where
  pub entries : List Entry
  pub versions : ℕ
  pub marks : Marks
  pub updates : ℕ
  pub changes : ℕ

-- the limits of a store, its versions, which of them were dropped, what it accepted, the entries of level 0 in their order, the sealed level 0 behind
-- it, where there is one, for how many more updates level 0 has room, for how many the next level 0 has, where one stands
-- ready, and the open cursors
pub record Memory : Type 0 where
  pub changes_max : ℕ
  pub versions_max : ℕ
  pub parents : Parents
  pub marks : Marks
  pub updates : ℕ
  pub changes : ℕ
  pub entries : List Entry
  pub sealed : Option SealedLevel
  pub spare : ℕ
  pub ready : Option ℕ
  pub cursors : HeldCursors

-- the entries of the sealed level 0, where there is one
abbrev pub sealed_entries : Memory → Option (List Entry)
sealed_entries m = option_map (λ z. z.entries) m.sealed

-- the lists of level 0 that a look-up asks, the newest first
abbrev pub lists_in_memory : Memory → List (List Entry)
lists_in_memory m = lists_read m.entries (sealed_entries m)

-- the entries that a promotion takes: those that are sealed, or level 0's where nothing is
abbrev pub oldest_entries : Memory → List Entry
oldest_entries m = option_map_or (λ z. z.entries) m.sealed m.entries

-- how many versions there were, and how many updates and changes had been accepted, when level 0 was sealed, or are now where
-- nothing is sealed
abbrev pub oldest_versions : Memory → ℕ
oldest_versions m = option_map_or (λ z. z.versions) m.sealed (length m.parents)

-- the versions that there were then
abbrev pub oldest_parents : Memory → Parents
oldest_parents m = take (oldest_versions m) m.parents

-- which of them were dropped then
abbrev pub oldest_marks : Memory → Marks
oldest_marks m = option_map_or (λ z. z.marks) m.sealed m.marks

abbrev pub oldest_updates : Memory → ℕ
oldest_updates m = option_map_or (λ z. z.updates) m.sealed m.updates

abbrev pub oldest_changes : Memory → ℕ
oldest_changes m = option_map_or (λ z. z.changes) m.sealed m.changes

-- memory has a version: it was made, and it was not dropped
abbrev pub has_version : Memory → ℕ → Bool
has_version m v = is_there m.parents m.marks v

-- why an update at a version is refused, if it is
abbrev pub refusal_of_update : Memory → ℕ → Option Refusal
refusal_of_update m v =
    if not (has_version m v) then Some why.UnknownVersion else
    if has_living_child m.parents m.marks v then Some why.Frozen else
    if m.changes == m.changes_max then Some why.ChangeLimit else None

-- why a clone of a version is refused, if it is
abbrev pub refusal_of_clone : Memory → ℕ → Option Refusal
refusal_of_clone m v =
    if not (has_version m v) then Some why.UnknownVersion else
    if length m.parents == m.versions_max then Some why.VersionLimit else
    if m.changes == m.changes_max then Some why.ChangeLimit else None

-- why a drop of a version is refused, if it is
abbrev pub refusal_of_drop : Memory → ℕ → Option Refusal
refusal_of_drop m v =
    if not (has_version m v) then Some why.UnknownVersion else
    if v == 0 then Some why.Root else
    if has_living_child m.parents m.marks v then Some why.Frozen else
    if m.changes == m.changes_max then Some why.ChangeLimit else None

-- why a change is refused, if it is
abbrev pub refusal_of_change : Memory → Change → Option Refusal
refusal_of_change m (Put version key value) = refusal_of_update m version
refusal_of_change m (Delete version key) = refusal_of_update m version
refusal_of_change m (Clone version) = refusal_of_clone m version
refusal_of_change m (DropVersion version) = refusal_of_drop m version

-- memory after an update that is accepted
abbrev pub with_update : Memory → Entry → Memory
with_update m e = record m {
  updates = m.updates + 1;
  changes = m.changes + 1;
  entries = set_entry e m.entries;
  spare = m.spare - 1;
}

-- memory after a change that is accepted
abbrev pub memory_after : Memory → Change → Memory
memory_after m (Put version key value) =
    with_update m (record { key = key; version = version; value = Some value })
memory_after m (Delete version key) =
    with_update m (record { key = key; version = version; value = None })
memory_after m (Clone version) = record m {
  parents = with_child m.parents version;
  marks = m.marks ++ false ∷ [];
  changes = m.changes + 1;
}
memory_after m (DropVersion version) =
    record m { marks = slice_set m.marks version true; changes = m.changes + 1 }

-- level 0 has room for what a change sets; a clone and a drop set nothing
abbrev pub HasRoomFor : Memory → Change → Type 0
HasRoomFor m (Put version key value) = 1 ≤ m.spare
HasRoomFor m (Delete version key) = 1 ≤ m.spare
HasRoomFor m (Clone version) = Unit {0}
HasRoomFor m (DropVersion version) = Unit {0}

-- what is told of a change that is accepted
abbrev pub reply_to : Memory → Change → Reply
reply_to m (Clone version) = reply.Made (length m.parents)
reply_to m change = reply.Done

-- what is told of a version, and of the whole store
abbrev pub info_told : Memory → ℕ → Reply
info_told m v =
    reply.Info (parent_of m.parents v) (depth m.parents v) (has_living_child m.parents m.marks v)

abbrev pub stat_told : Memory → Reply
stat_told m = reply.Stat (length m.parents) m.updates m.changes (length m.cursors.opened)

-- level 0 of memory, sealed now
abbrev pub sealed_now : Memory → SealedLevel
sealed_now m = record {
  entries = m.entries;
  versions = length m.parents;
  marks = m.marks;
  updates = m.updates;
  changes = m.changes;
}

-- memory whose level 0 was sealed: a new one is in its place, without entries and with room for so many updates
abbrev pub sealed_off : ℕ → Memory → Memory
sealed_off n m = record m { entries = []; sealed = Some (sealed_now m); spare = n; ready = None }

-- memory that let go of what was sealed
abbrev pub unsealed : Memory → Memory
unsealed m = record m { sealed = None }

-- memory with a level 0 that has no entries yet, nothing that is sealed, and room for so many updates
abbrev pub emptied : ℕ → Memory → Memory
emptied mem m = record m { entries = []; sealed = None; spare = mem; ready = None }

-- memory in which the next level 0 stands ready, or does not, and with this room for arrays that are kept for cursors
abbrev pub prepared : Memory → Option ℕ → ℕ → Memory
prepared m o n = record m { ready = o; cursors = record m.cursors { room = n } }

-- memory after what was sealed went into the levels, and these arrays left them
abbrev pub renewed : List ArrayDesc → Memory → Memory
renewed gone m = record (unsealed m) { cursors = retired_all gone m.cursors }

-- memory made ready for a checkpoint: as it was, but for the next level 0, which may stand ready, and for the room for arrays
-- that are kept for cursors; and if level 0 was not sealed, it may be now, with room for so many updates in the new one
abbrev pub IsReadyFrom : ℕ → Memory → Memory → Type 0
IsReadyFrom mem old new = (new ≡ prepared old new.ready new.cursors.room)
    ⊎ ((old.sealed ≡ None) × (new ≡ prepared (sealed_off mem old) None new.cursors.room))

-- memory of a new store
abbrev pub fresh_memory : ℕ → ℕ → ℕ → Memory
fresh_memory mem changes_max versions_max = record {
  changes_max = changes_max;
  versions_max = versions_max;
  parents = None ∷ [];
  marks = false ∷ [];
  updates = 0;
  changes = 0;
  entries = [];
  sealed = None;
  spare = mem;
  ready = None;
  cursors = no_cursors;
}

-- a cursor over a range of a version, as it is opened now
abbrev pub cursor_from : Memory → List (Option LevelDesc) → ℕ → List ℕ → List ℕ → HeldCursor
cursor_from m levels v lo hi = record {
  number = m.cursors.next;
  version = v;
  zero = m.entries;
  sealed = sealed_entries m;
  arrays = arrays_asked m.parents levels v;
  from = Some lo;
  hi = hi;
}

-- cursors with one more
abbrev pub with_cursor : HeldCursors → HeldCursor → HeldCursors
with_cursor c one = record c { opened = c.opened ++ one ∷ []; next = c.next + 1 }

-- cursors keep the rows that they had, whatever an image says
abbrev pub KeepsRows : Memory → Memory → Type 0
KeepsRows old new = (f : Image) (rows : List Cursor)
    → AreRowsOf f old.parents old.cursors.opened rows
    → AreRowsOf f new.parents old.cursors.opened rows

-- the table that a state means, with these cursors and the number of the next one
abbrev pub table_with : State → List Cursor → ℕ → Table
table_with s rows n = record (table_of s) { cursors = rows; next_cursor = n }

-- a head as it was when its journal just filled a region
abbrev pub head_full : Head → Head
head_full h = record h { journal = take h.sb.mem h.journal }

-- a sealed level 0 has the counts and the marks of a head as it was then
pub record CountsSealed (h : Head) (z : SealedLevel) : Type 0 where
  pub versions : z.versions ≡ length (head_versions (head_full h))
  pub marks : z.marks ≡ head_marks (head_full h)
  pub updates : z.updates ≡ head_updates (head_full h)
  pub changes : z.changes ≡ head_changes (head_full h)

-- memory is that of a head: level 0, and the sealed one behind it where there is one, hold what its journal says, and level 0
-- has room for as many updates more as its region has for changes
pub record IsMemoryOf (h : Head) (m : Memory) : Type 0 where
  pub changes_max : m.changes_max ≡ h.sb.changes_max
  pub versions_max : m.versions_max ≡ h.sb.versions_max
  pub parents : m.parents ≡ head_versions h
  pub marks : m.marks ≡ head_marks h
  pub updates : m.updates ≡ head_updates h
  pub changes : m.changes ≡ head_changes h
  pub lists : HoldLists h.sb.mem h.journal m.entries (sealed_entries m) m.spare
  pub counted : IfSome m.sealed (CountsSealed h)
