-- A publication of a store: what takes the place of what the store holds.
use Rattle.std.specs.Prelude.{◌≡◌, ◌≢◌, ◌⊎◌, ◌≤◌, ◌<◌, ◌==◌, ℕ, ◌+◌, ◌-◌, ◌^◌, ◌&&◌, nat_le, nat_lt, Bool, true, false, List, [], drop, length, Contains, Option, None, Some, Ok, IsTrue}
use Rattle.std.specs.List.{count_by, list_all}
use Rattle.strat_base.specs.declared.descriptors.ArrayDesc.{ArrayDesc}
use Rattle.strat_base.specs.declared.descriptors.LevelDesc.{LevelDesc}
use Rattle.def_crash.specs.Blocks.{AgreeOn, TearsBlocks}
use Rattle.def_crash.specs.Image.{Image}
use Rattle.def_crash.specs.Moments.{DiskView, Exposes, Since}
use Rattle.strat_cursor.specs.Cursors.{retired_all}
use Rattle.strat_cursor.specs.Held.{HeldCursors}
use Rattle.strat_extent.specs.Blocks.{times_in}
use Rattle.def_bytes.specs.Arrays.{blocks_of}
use Rattle.def_bytes.specs.Chained.{Chained}
use Rattle.def_bytes.specs.Layout.{other_region, newest_format}
use Rattle.def_bytes.specs.Manifest.{Manifest}
use Rattle.def_bytes.specs.SuperBlock.{Super, IsLawful, newest_in}
use Rattle.strat_journal.specs.Log.{region_turned}
use Rattle.strat_model.specs.declared.replies.Refusal.TheVariants as why
use Rattle.strat_model.specs.declared.replies.Reply.{Reply}
use Rattle.strat_model.specs.declared.replies.Reply.TheVariants as reply
use Rattle.strat_model.specs.Answer.{accepts}
use Rattle.strat_model.specs.Request.{Request}
use Rattle.strat_model.specs.Run.{is_change}
use Rattle.strat_promote.specs.Job.{blocks_listed}
use Rattle.def_recovery.specs.Head.{parent_numbers}
use Rattle.def_recovery.specs.Opening.{belongs}
use Rattle.def_publish.specs.Contents.{Contents, contents_state}
use Rattle.def_publish.specs.Next.{arrays_made}
use Rattle.def_publish.specs.Occupied.{arrays_in, extents_of}
use Rattle.def_publish.specs.Standing.{AreFree}
use Rattle.def_slice.specs.Opened.{OpenPromotion}
use Rattle.def_state.specs.Level.{Level}
use Rattle.def_state.specs.Sound.{journal_max}
use Rattle.def_state.specs.State.{IsPaid}
use Rattle.strat_memory.specs.Filters.{LevelFilters, AreFiltersOf, filters_after}
use Rattle.strat_memory.specs.Held.{Held, IsOnDisk, StandsWith, arrays_held, blocks_named, contents_held}
use Rattle.strat_memory.specs.Memory.{Memory, oldest_changes, oldest_marks, oldest_parents, oldest_updates, renewed}
use Rattle.strat_memory.specs.Paying.{ArePaidSince}
use Rattle.strat_publish.specs.Counting.{KeepsCount}
use Rattle.strat_publish.specs.Publishing.{IsComputed, descs_to, manifest_after}

-- the superblock after one, whose manifest begins in this block and is of so many bytes
abbrev pub super_after : Super → ℕ → ℕ → Super
super_after sb first size = record sb {
  format = newest_format;
  generation = sb.generation + 1;
  manifest = first;
  length = size;
  region = other_region sb.region;
}

-- an image has this superblock as its newest one, or one that a publication lays after it, which is in the newest format
abbrev pub HasOldOrNext : ℕ → Super → Image → Type 0
HasOldOrNext slot sb c =
    (newest_in c ≡ Ok (Some (slot, sb)))
    ⊎ ((next : Super) × (newest_in c ≡ Ok (Some (1 - slot, next)))
    × (next.format ≡ newest_format) × (next.generation ≡ sb.generation + 1))

-- whatever a crash may leave from a moment on has this superblock as its newest one
abbrev pub KeepSuper : DiskView → ℕ → ℕ → Super → Type 0
KeepSuper v start slot sb = (c : Image) → Since v start c → newest_in c ≡ Ok (Some (slot, sb))

-- or one that a publication lays after it
abbrev pub HaveOldOrNext : DiskView → ℕ → ℕ → Super → Type 0
HaveOldOrNext v start slot sb = (c : Image) → Since v start c → HasOldOrNext slot sb c

-- the arrays of a manifest that a promotion down to a level took
abbrev pub arrays_taken : ℕ → Manifest → List ArrayDesc
arrays_taken target m = arrays_in (descs_to target m.levels)

-- what a store holds after a publication of this superblock, manifest and levels: what was sealed is let go of, no promotion is
-- open, the journal has what came since, the arrays of the levels down to a target are kept where a cursor names them, and of the filters of these
-- levels those of the arrays that were made take the place
abbrev pub held_next : Held → ℕ → Super → Chained → List (Option LevelDesc) → LevelFilters → Held
held_next s target sb chained levels made = record {
  slot = 1 - s.slot;
  sb = sb;
  chained = chained;
  log = region_turned s.log;
  memory = renewed (arrays_taken target s.chained.manifest) s.memory;
  levels = levels;
  filters = filters_after s.filters target made;
  promoting = None;
  cached = s.cached;
  spent = false;
}

-- the contents that it then has, with these levels
abbrev pub contents_next : Held → Super → Chained → List Level → Contents
contents_next s sb chained levels = record {
  slot = 1 - s.slot;
  sb = sb;
  chained = chained;
  journal = drop s.log.mem s.log.list;
  levels = levels;
}

-- a superblock and a manifest may follow those that a store holds: the limits are the same, and all that memory counted at the
-- seal is behind the manifest
pub record MayFollow (s : Held) (sb : Super) (chained : Chained) : Type 0 where
  pub lawful : IsLawful sb
  pub region : sb.region ≡ other_region s.sb.region
  pub mem : sb.mem ≡ s.sb.mem
  pub changes_max : sb.changes_max ≡ s.sb.changes_max
  pub versions_max : sb.versions_max ≡ s.sb.versions_max
  pub changes : chained.manifest.changes ≡ oldest_changes s.memory
  pub updates : chained.manifest.updates ≡ oldest_updates s.memory
  pub parents : chained.manifest.parents ≡ parent_numbers (oldest_parents s.memory)
  pub marks : chained.manifest.marks ≡ oldest_marks s.memory

-- a disk changed in blocks alone that are free beside what a store holds, whatever its levels say, and that no array has
-- which is kept for a cursor
pub record WritesBeside (old new : DiskView) (s : Held) : Type 0 where
  pub free : ℕ → Bool
  pub beside : AreFree free (contents_held s [])
  pub retired : (a : ArrayDesc) (b : ℕ) → Contains s.memory.cursors.retired a
      → Contains (blocks_of a.extents) b → free b ≡ false
  pub tears : TearsBlocks free old new

-- the next contents of a store, of this superblock and manifest, are written beside those that it stands on, and it has
-- these filters of their arrays
pub record IsReadied (v : DiskView) (s : Held) (x : Contents) (sb : Super) (chained : Chained)
    (filters : List LevelFilters) : Type 0 where
  pub levels : List Level
  pub computed : IsComputed v (1 - s.slot) sb s.log x (contents_next s sb chained levels)
  -- they are paid for where those are and the journal is full
  pub paid : IsPaid (contents_state x) → s.sb.mem ≤ length s.log.list
      → IsPaid (contents_state (contents_next s sb chained levels))
  pub filtered : AreFiltersOf levels filters

-- a superblock and a manifest that were computed pass all tests that come before they are laid: the arrays that were made are
-- numbered from the old next number on, another generation has a number, and so have the blocks of the chain, and the
-- manifest belongs to its superblock
pub record MayBeAdmitted (sb : Super) (m : Manifest) (made : Option LevelDesc) (next_sb : Super)
    (next : Chained) : Type 0 where
  pub numbered : IsTrue (list_all (λ a. nat_le m.next_array a.id) (arrays_made made))
  pub generation : sb.generation + 1 < 2 ^ 64
  pub low : IsTrue (list_all (λ b. nat_lt b 4294967295) next.blocks)
  pub belonging : IsTrue (belongs next_sb next)

-- once a promotion took the levels of a store down to a target, no block stands twice among those of the next manifest, of the
-- arrays that were taken, and of those that were kept for cursors before
pub record StandApart (target : ℕ) (s : Held) (next : Chained) : Type 0 where
  pub once : (b : ℕ) → count_by (λ other. other == b) (blocks_named next)
      + (times_in (extents_of (arrays_taken target s.chained.manifest)) b
      + times_in (extents_of s.memory.cursors.retired) b) ≤ 1

-- after a superblock, a manifest and what is in memory come these that one promotion leaves, down to this target, of arrays
-- that have new numbers, and of a manifest in some blocks
pub record ArePublishedTo (target : ℕ) (sb : Super) (m : Manifest) (memory : Memory)
    (next_sb : Super) (next : Manifest) : Type 0 where
  pub made : Option LevelDesc
  pub first : ℕ
  pub size : ℕ
  pub numbered : (a : ArrayDesc) → Contains (arrays_made made) a → m.next_array ≤ a.id
  pub manifest_is : next ≡ manifest_after m memory target made
  pub sb_is : next_sb ≡ super_after sb first size

-- a superblock and a manifest are published so, down to some target, and the cursors are those of memory, for which those of the
-- arrays taken are kept that one of them names. The target has some filters, the levels before it none, and those behind it
-- the ones that they had
pub record ArePublishedAfter (sb : Super) (m : Manifest) (memory : Memory)
    (filters : List LevelFilters) (next_sb : Super) (next : Manifest) (cursors : HeldCursors)
    (left : List LevelFilters) : Type 0 where
  pub target : ℕ
  pub made : LevelFilters
  pub low : 1 ≤ target
  pub are : ArePublishedTo target sb m memory next_sb next
  pub cursors_are : cursors
      ≡ record (retired_all (arrays_taken target m) memory.cursors) { room = cursors.room }
  pub filters_are : left ≡ filters_after filters target made

-- a store holds what a publication left of another, down to some target
pub record IsInstalled (old new : Held) : Type 0 where
  pub target : ℕ
  pub sb : Super
  pub chained : Chained
  pub levels : List (Option LevelDesc)
  pub made : LevelFilters
  pub low : 1 ≤ target
  pub next : new ≡ held_next old target sb chained levels made
  pub are : ArePublishedTo target old.sb old.chained.manifest old.memory sb chained.manifest

-- a store holds what it held beside an open promotion, and that is its own; its journal has room for a change
pub record TakesOpen (old new : Held) : Type 0 where
  pub promotion : OpenPromotion
  pub held : new ≡ record old { promoting = Some promotion }
  pub room : length old.log.list < journal_max old.sb.mem

-- a store holds the superblock and the manifest that it held, with their levels and the filters of these
pub record KeepsPublished (old new : Held) : Type 0 where
  pub slot : new.slot ≡ old.slot
  pub sb : new.sb ≡ old.sb
  pub chained : new.chained ≡ old.chained
  pub levels : new.levels ≡ old.levels
  pub filters : new.filters ≡ old.filters

-- a store whose journal was full holds those that a publication left, and has no promotion open
pub record HasPublished (old new : Held) : Type 0 where
  pub full : old.log.mem ≤ length old.log.list
  pub closed : new.promoting ≡ None
  pub slot : new.slot ≡ 1 - old.slot
  pub after : ArePublishedAfter old.sb old.chained.manifest old.memory old.filters new.sb
      new.chained.manifest new.memory.cursors new.filters

-- a store whose journal was full, but had room for a change, holds those that it held, and has a promotion open
pub record IsPromoting (old new : Held) : Type 0 where
  pub full : old.log.mem ≤ length old.log.list
  pub room : length old.log.list < journal_max old.sb.mem
  pub keeps : KeepsPublished old new
  pub promotion : OpenPromotion
  pub open_is : new.promoting ≡ Some promotion

-- a store has the cursors that it had, with the arrays that are kept for them
abbrev pub KeepsCursors : Held → Held → Type 0
KeepsCursors old new = new.memory.cursors
    ≡ record old.memory.cursors { room = new.memory.cursors.room }

-- a command is a change, and was carried out
abbrev pub carries_out : Request → Reply → Bool
carries_out request told = is_change request && accepts told

-- what a command leaves of the superblock and the manifest of a store: a change that was carried out at a full journal
-- published once, or left a promotion open, one that met a fault of the device there may have published, and no other command
-- did. Unless the device failed,
-- those that the store then holds are on the disk, where they were before
pub record LeavesPublished (before now : DiskView) (old : Held) (carried : Bool) (told : Reply)
    (new : Held) : Type 0 where
  pub either : KeepsPublished old new ⊎ HasPublished old new
  pub kept : carried ≡ false → told ≢ reply.Refused why.DeviceFault → KeepsPublished old new
  pub next : carried ≡ true → old.log.mem ≤ length old.log.list
      → HasPublished old new ⊎ IsPromoting old new
  -- and none was begun, given up or gone on with where the active region had room
  pub below : length old.log.list < old.log.mem → new.promoting ≡ old.promoting
  pub on_disk : told ≢ reply.Refused why.DeviceFault → IsOnDisk before old → IsOnDisk now new
  -- and so are the blocks of all arrays that it held, those of its levels and those that are kept for cursors
  pub beside : told ≢ reply.Refused why.DeviceFault → (f g : Image) → Exposes before f
      → Exposes now g → AgreeOn (blocks_listed (arrays_held old.memory old.levels)) f g
  -- and where the store stands, what each crash leaves is paid for if its contents are, and its manifest counts what a
  -- publication wrote
  pub paid : (x : Contents) → StandsWith before old x → IsPaid (contents_state x)
      → ArePaidSince now before.moment
  pub counted : (x : Contents) → StandsWith before old x
      → KeepsCount old.chained.manifest new.chained.manifest
  -- and it has the superblock that the store held, or the one that a publication lays after it
  pub superblocks : (x : Contents) → StandsWith before old x
      → HaveOldOrNext now before.moment old.slot old.sb
