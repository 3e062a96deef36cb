-- An open store, and the disk that it stands on.
use Rattle.std.specs.Prelude.{◌≡◌, ◌≤◌, ◌<◌, ◌==◌, ℕ, ◌+◌, ◌^◌, Bool, List, [], ◌++◌, length, flat_map, Contains, Option, Some, Ok, IfSome, IsTrue}
use Rattle.std.specs.List.{count_by, list_all}
use Rattle.strat_array.specs.Kept.{Blocks}
use Rattle.strat_base.specs.Change.{is_lawful}
use Rattle.strat_base.specs.declared.descriptors.ArrayDesc.{ArrayDesc}
use Rattle.strat_base.specs.declared.descriptors.Extent.{Extent}
use Rattle.strat_base.specs.declared.descriptors.LevelDesc.{LevelDesc}
use Rattle.def_crash.specs.Image.{Image}
use Rattle.def_crash.specs.Moments.{DiskView, Exposes, Images}
use Rattle.strat_extent.specs.Blocks.{times_in, total_len, used_count, uses}
use Rattle.def_bytes.specs.Arrays.{blocks_of}
use Rattle.def_bytes.specs.Chained.{Chained, manifest_at}
use Rattle.def_bytes.specs.Layout.{first_free, newest_format}
use Rattle.def_bytes.specs.Manifest.{is_lawful_manifest}
use Rattle.def_bytes.specs.SuperBlock.{Super, IsLawful, newest_in}
use Rattle.strat_journal.specs.Log.{Log}
use Rattle.strat_level.specs.Levels.{level_numbered}
use Rattle.strat_model.specs.Run.{Position}
use Rattle.strat_model.specs.Table.{Cursor, Table}
use Rattle.def_recovery.specs.Head.{Head, descriptors}
use Rattle.def_recovery.specs.Opened.{parents_in}
use Rattle.def_recovery.specs.Opening.{belongs}
use Rattle.def_meaning.specs.StateTable.{table_of}
use Rattle.strat_promote.specs.Job.{arrays_to}
use Rattle.strat_promote.specs.Promotions.{ReadsOf, extents_taken, target_of}
use Rattle.def_slice.specs.Opened.{OpenPromotion, MayBeSliced, IsOpenOver}
use Rattle.def_publish.specs.Contents.{Contents, contents_state}
use Rattle.def_publish.specs.Occupied.{extents_of}
use Rattle.def_publish.specs.Standing.{ContentsStand}
use Rattle.def_state.specs.Level.{Level}
use Rattle.def_state.specs.Sound.{are_accepted, journal_max}
use Rattle.strat_cursor.specs.Cursors.{MayGoOn, are_named, arrays_named}
use Rattle.strat_cursor.specs.Held.{HeldCursor, AreRowsOf}
use Rattle.strat_cursor.specs.Looking.{AreCachedFrom, HaveOwnIds, levels_there, arrays_there}
use Rattle.strat_memory.specs.Filters.{LevelFilters, AreFiltersOf}
use Rattle.strat_memory.specs.Memory.{Memory, SealedLevel, IsMemoryOf, table_with}

-- a store as its callers see it: the newest superblock and its slot, the manifest with the blocks of its
-- chain, the journal, what is in memory of versions and level 0, levels 1 to 22 and the filters of their arrays, a promotion
-- that may be open, the blocks that are cached, and whether a fault left it unfit for use
pub record Held : Type 0 where
  pub slot : ℕ
  pub sb : Super
  pub chained : Chained
  pub log : Log
  pub memory : Memory
  pub levels : List (Option LevelDesc)
  pub filters : List LevelFilters
  pub promoting : Option OpenPromotion
  pub cached : Blocks
  pub spent : Bool

-- the head that a store holds
abbrev pub head_held : Held → Head
head_held s = record { sb = s.sb; manifest = s.chained.manifest; journal = s.log.list }

-- the contents that a store holds, with these levels
abbrev pub contents_held : Held → List Level → Contents
contents_held s levels = record {
  slot = s.slot;
  sb = s.sb;
  chained = s.chained;
  journal = s.log.list;
  levels = levels;
}

-- each of these levels is in the place of its number, and the other places are empty
pub record ArePlaced (listed : List LevelDesc) (levels : List (Option LevelDesc)) : Type 0 where
  pub count : length levels ≡ 22
  pub listed_are : levels_there levels ≡ listed
  pub numbered : (n : ℕ) (level : LevelDesc) → level_numbered levels n ≡ Some level
      → level.number ≡ n

-- a journal in memory goes on behind a superblock: it has no batch, and no more changes than recovery takes from both
-- regions, of sizes that a change may have
pub record IsLogBehind (sb : Super) (log : Log) : Type 0 where
  pub mem : log.mem ≡ sb.mem
  pub active : log.active ≡ sb.region
  pub batch : log.batch ≡ []
  pub few : length log.list ≤ journal_max sb.mem
  pub lawful : IsTrue (list_all is_lawful log.list)

-- the arrays of levels, and those that no level names any more but a cursor does
abbrev pub arrays_held : Memory → List (Option LevelDesc) → List ArrayDesc
arrays_held m levels = arrays_there levels ++ m.cursors.retired

-- the blocks of a manifest: those of its chain and those of its arrays
abbrev pub blocks_named : Chained → List ℕ
blocks_named chained =
    chained.blocks ++ flat_map (λ a. blocks_of a.extents) (descriptors chained.manifest)

-- what cursors name is there: each of their arrays is one of a level or is retired, and each retired one is
-- named by one of them; no two of all these have one number, each has one below the next, retired ones
-- lie behind the journal and in front of the greatest block number, none of their blocks stands twice among theirs and
-- those of the manifest, and what one cursor names has no more blocks than a manifest's arrays
pub record AreKept (sb : Super) (chained : Chained) (levels : List (Option LevelDesc)) (m : Memory)
    : Type 0 where
  pub named : (a : ArrayDesc) → Contains (arrays_named m.cursors.opened) a
      → Contains (arrays_held m levels) a
  pub needed : IsTrue (are_named m.cursors.opened m.cursors.retired)
  pub ids : HaveOwnIds (arrays_held m levels)
  pub below : (a : ArrayDesc) → Contains (arrays_held m levels) a
      → a.id < chained.manifest.next_array
  pub within : (b : ℕ) → 0 < times_in (extents_of m.cursors.retired) b
      → (first_free sb.mem ≤ b) × (b < 4294967295)
  pub once : (b : ℕ) → count_by (λ other. other == b) (blocks_named chained)
      + times_in (extents_of m.cursors.retired) b ≤ 1
  pub few : (c : HeldCursor) → Contains m.cursors.opened c
      → total_len (extents_of c.arrays) ≤ 2 ^ 25

-- an open promotion may go on over what a store holds, whatever its disk has: it was begun of what is sealed; and its space
-- has the blocks of the manifest, those that it has taken, and those of the arrays that are kept for cursors, none of them twice
pub record MayGoOnWith (s : Held) (o : OpenPromotion) : Type 0 where
  pub sealed : SealedLevel
  pub sealed_is : s.memory.sealed ≡ Some sealed
  pub sliced : (on : List Level)
      → MayBeSliced (contents_held s on) sealed.entries s.levels o
  pub first : o.space.first ≡ first_free s.sb.mem
  pub apart : (b : ℕ) → count_by (λ other. other == b) (blocks_named s.chained)
      + (times_in (extents_taken o.promotion) b
      + times_in (extents_of s.memory.cursors.retired) b) ≤ uses o.space b

-- between two commands a store that is not spent holds what an opening may find, and a promotion that is open may go on
pub record IsConsistent (s : Held) : Type 0 where
  pub slot : s.slot ≤ 1
  pub lawful : IsLawful s.sb
  pub spelled : IsTrue (is_lawful_manifest newest_format s.chained.manifest)
  pub belonging : IsTrue (belongs s.sb s.chained)
  pub log : IsLogBehind s.sb s.log
  pub accepted : IsTrue (are_accepted s.sb.changes_max s.sb.versions_max
      (parents_in s.chained.manifest) s.chained.manifest.marks s.chained.manifest.changes
      s.log.list)
  pub memory : IsMemoryOf (head_held s) s.memory
  pub placed : ArePlaced s.chained.manifest.levels s.levels
  pub kept : AreKept s.sb s.chained s.levels s.memory
  pub going : IfSome s.promoting (MayGoOnWith s)

-- a promotion of a store is open over its contents, as an image has them, for this fill of the journal; and but for the
-- blocks that it has taken, more than 2^30 are free
pub record IsOpenAt (f : Image) (s : Held) (x : Contents) (fill : ℕ) (o : OpenPromotion)
    : Type 0 where
  pub sealed : SealedLevel
  pub sealed_is : s.memory.sealed ≡ Some sealed
  pub others : List Extent
  pub over : IsOpenOver f x fill sealed.entries s.levels others o
  pub room : o.space.first + used_count o.space + 2 ^ 30
      < 4294967295 + length (blocks_of (extents_taken o.promotion))

-- a store stands on a disk with these contents: every crash leaves them, they are what it holds, what it has cached is on
-- the disk, its filters are of the keys of their arrays, and a promotion that it has is open over them
pub record StandsWith (v : DiskView) (s : Held) (x : Contents) : Type 0 where
  pub stands : ContentsStand v x
  pub held : x ≡ contents_held s x.levels
  pub cached : AreCachedFrom stands.content s.chained.manifest.next_array
      (descriptors s.chained.manifest) s.cached
  pub filtered : AreFiltersOf x.levels s.filters
  pub open_over : IfSome s.promoting (IsOpenAt stands.content s x (length s.log.list))

-- what an open promotion of a store has read is what an image has: what is bad for what it is still to read is bad in one of the
-- arrays that it merges, and these have the blocks that it is still to read
abbrev pub HasReadFrom : Image → Held → Type 0
HasReadFrom f s = IfSome s.promoting
    (λ o. ReadsOf f (arrays_to s.levels (target_of o.promotion)) o.promotion)

-- a disk exposes its content, and each crash leaves the superblock and the manifest that a store holds; so has the content,
-- which is one of the images of a disk, and an open promotion has read what it has
pub record IsOnDisk (v : DiskView) (s : Held) : Type 0 where
  pub content : Image
  pub exposed : Exposes v content
  pub newest : (c : Image) → Images v c → newest_in c ≡ Ok (Some (s.slot, s.sb))
  pub chain : (c : Image) → Images v c
      → manifest_at s.sb.format c s.sb.manifest s.sb.length ≡ Ok s.chained
  pub read : HasReadFrom content s

-- where a store with these contents stands in a run, but for its cursors: the table that they mean, and
-- how many changes the journal holds
abbrev pub position_with : Held → Contents → Position
position_with s x = record { table = table_of (contents_state x); fill = length s.log.list }

-- a store stands on a disk with these contents, and its cursors have these pairs left and may go on
pub record StandsAt (v : DiskView) (s : Held) (x : Contents) (rows : List Cursor) : Type 0 where
  pub stands : StandsWith v s x
  pub rows_are : AreRowsOf stands.stands.content s.memory.parents s.memory.cursors.opened rows
  pub going : (c : HeldCursor) → Contains s.memory.cursors.opened c
      → MayGoOn stands.stands.content s.chained.manifest.next_array c s.cached

-- the table that contents mean, with these cursors of a store
abbrev pub table_at : Held → Contents → List Cursor → Table
table_at s x rows = table_with (contents_state x) rows s.memory.cursors.next

-- where a store with these contents and cursors stands in a run
abbrev pub position_at : Held → Contents → List Cursor → Position
position_at s x rows = record { table = table_at s x rows; fill = length s.log.list }
