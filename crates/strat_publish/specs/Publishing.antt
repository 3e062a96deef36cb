-- A publication of a store, step by step.
use Rattle.std.specs.Prelude.{◌≡◌, ◌≢◌, ◌≤◌, ◌<◌, ℕ, ◌+◌, ◌-◌, ◌^◌, ◌++◌, Bool, List, length, filter, sum_by, nat_le, nat_lt, Option, Some, Ok, IsSome, IsTrue}
use Rattle.std.specs.Option.{option_to_list}
use Rattle.strat_base.specs.declared.descriptors.Extent.{Extent}
use Rattle.strat_base.specs.declared.descriptors.LevelDesc.{LevelDesc}
use Rattle.def_crash.specs.Image.{Image}
use Rattle.def_crash.specs.Blocks.{KeepsTaken, TearsBlocks}
use Rattle.def_crash.specs.Moments.{DiskView, Exposes, Images}
use Rattle.strat_extent.specs.Blocks.{SpaceView, is_free}
use Rattle.def_bytes.specs.Arrays.{blocks_of}
use Rattle.def_bytes.specs.Manifest.{Manifest, is_lawful_manifest, manifest_bytes}
use Rattle.def_bytes.specs.Chained.{Chained, manifest_at}
use Rattle.def_bytes.specs.Layout.{first_free, other_region, newest_format}
use Rattle.def_bytes.specs.SuperBlock.{Super, newest_in}
use Rattle.strat_journal.specs.Log.{Log}
use Rattle.def_recovery.specs.Head.{parent_numbers}
use Rattle.strat_memory.specs.Memory.{Memory, IsMemoryOf, oldest_changes, oldest_marks, oldest_parents, oldest_updates}
use Rattle.strat_memory.specs.Filters.{LevelFilters, AreFiltersOf, AreFiltersOn, filters_after}
use Rattle.def_state.specs.State.{IsPaid}
use Rattle.def_promote.specs.Promoted.{SaysTheSame, levels_behind}
use Rattle.def_publish.specs.Appending.{IsLogOf}
use Rattle.def_publish.specs.Contents.{Contents, contents_head, contents_state, later_part}
use Rattle.def_publish.specs.Next.{AreNewArrays, IsNextOf, MayBeNext, HasManifest, arrays_made}
use Rattle.def_publish.specs.Occupied.{IsSpaceOf, extents_of, arrays_in}
use Rattle.def_publish.specs.Standing.{LeavesContent, ContentsStand}
use Rattle.def_state.specs.Level.{Level}
use Rattle.strat_publish.specs.Promoting.{IsPromotedTo}

-- the next contents of those that stand on a disk are written there but for their superblock, which is for this slot, and this
-- journal is that of the contents that stand; what was written need not be durable
pub record IsComputed (v : DiskView) (slot : ℕ) (sb : Super) (log : Log) (old new : Contents)
    : Type 0 where
  pub stands : ContentsStand v old
  pub log_is : IsLogOf old log
  pub slot_is : new.slot ≡ slot
  pub sb_is : new.sb ≡ sb
  -- what became of the levels, and an image that read as the old contents
  pub made : Option LevelDesc
  pub taken : List LevelDesc
  pub kept : List LevelDesc
  pub was : Image
  pub next : MayBeNext was stands.content old new made taken kept
  pub says : SaysTheSame (contents_state old) (contents_state new)
  -- the blocks of the next contents are used, and some others
  pub space : SpaceView
  pub others : List Extent
  pub used : IsSpaceOf space new others
  pub manifest : HasManifest stands.content new

-- a block lies in front of those that a space has
abbrev pub is_in_front : ℕ → ℕ → Bool
is_in_front mem b = nat_lt b (first_free mem)

-- a superblock was laid into a slot: where the newest one of a content stood in the other slot, of a smaller generation,
-- each image has the one laid as its newest; and the blocks behind the journal are those of the content
pub record LaysSuperblock (old new : DiskView) (mem slot : ℕ) (sb : Super) : Type 0 where
  pub newest : (f : Image) (other : ℕ) (was : Super) → Exposes old f
      → newest_in f ≡ Ok (Some (other, was)) → other ≢ slot → was.generation < sb.generation
      → (c : Image) → Images new c → newest_in c ≡ Ok (Some (slot, sb))
  pub behind : (f c : Image) → Exposes old f → Images new c → KeepsTaken (is_in_front mem) f c

-- a manifest was written where a superblock leads: a content that is exposed has it there, where one was exposed before
abbrev pub WritesManifest : DiskView → DiskView → ℕ → ℕ → Chained → Type 0
WritesManifest old new first size chained = IsSome old.content → (g : Image) → Exposes new g
    → manifest_at newest_format g first size ≡ Ok chained

-- contents name the manifest and the chain that was written for them: its first block, its length in bytes, its extents
pub record IsWrittenTo (first size : ℕ) (chain : List Extent) (m : Manifest) (new : Contents)
    : Type 0 where
  pub chained : new.chained ≡ record { manifest = m; blocks = blocks_of chain }
  pub format : new.sb.format ≡ newest_format
  pub first_is : new.sb.manifest ≡ first
  pub length_is : new.sb.length ≡ size

-- the manifest after a promotion: the changes up to the seal are behind it, drops too, and the level that was made stands before
-- those that are deeper than its number
abbrev pub manifest_after : Manifest → Memory → ℕ → Option LevelDesc → Manifest
manifest_after old m target made = record {
  changes = oldest_changes m;
  updates = oldest_updates m;
  written = old.written + sum_by (λ a. a.entries) (arrays_made made);
  compacted = old.compacted;
  next_array = old.next_array + length (arrays_made made);
  parents = parent_numbers (oldest_parents m);
  marks = oldest_marks m;
  levels = option_to_list made ++ filter (λ level. nat_lt target level.number) old.levels;
}

-- a manifest may be written: it has a spelling, which fits into a chain, and its counts are far from the end of their type
pub record MayBeWritten (m : Manifest) : Type 0 where
  pub lawful : IsTrue (is_lawful_manifest newest_format m)
  pub short : length (manifest_bytes newest_format m) ≤ 4290772992
  pub written : m.written < 2 ^ 62
  pub next_array : m.next_array < 2 ^ 62

-- the levels down to a number, and those behind it
abbrev pub descs_to : ℕ → List LevelDesc → List LevelDesc
descs_to target levels = filter (λ level. nat_le level.number target) levels

abbrev pub descs_behind : ℕ → List LevelDesc → List LevelDesc
descs_behind target levels = filter (λ level. nat_lt target level.number) levels

-- the contents after a promotion, with these levels, whose manifest is of so many bytes and in these blocks
abbrev pub contents_after : Contents → Memory → ℕ → Option LevelDesc → List Level → ℕ → ℕ → List ℕ
    → Contents
contents_after old m target made levels first size blocks = record {
  slot = 1 - old.slot;
  sb = record old.sb {
    format = newest_format;
    generation = old.sb.generation + 1;
    manifest = first;
    length = size;
    region = other_region old.sb.region;
  };
  chained = record {
    manifest = manifest_after old.chained.manifest m target made;
    blocks = blocks;
  };
  journal = later_part old;
  levels = levels;
}

-- a level was made of contents that stand, whose journal fills its region, and then a manifest was written, in blocks that were
-- free: the space before that and the one after. Some blocks that contents do not name were used before, beside those of the
-- level, and some are after
pub record IsWrittenBeside (w u : DiskView) (t r : SpaceView) (old new : Contents) (target : ℕ)
    (made : Option LevelDesc) (besides others : List Extent) : Type 0 where
  pub stands : ContentsStand w old
  pub full : old.sb.mem ≤ length old.journal
  pub promoted : IsPromotedTo stands.content old target made
  pub space : IsSpaceOf t old (extents_of (arrays_made made) ++ besides)
  pub writing : TearsBlocks (is_free t) w u
  pub after : LeavesContent u
  pub used : IsSpaceOf r new others
  pub manifest : (g : Image) → Exposes u g → HasManifest g new
  pub next : IsNextOf old new made (descs_to target old.chained.manifest.levels)
      (descs_behind target old.chained.manifest.levels)
  pub levels : new.levels ≡ promoted.last.says.fresh ++ levels_behind target old.levels

-- a store may compute its next contents: its contents stand, their journal fills its region, memory is theirs, a level that was
-- made of them stands beside them, with filters of its arrays, the space has their blocks, those of the level and some others
-- used, and their chain is of these extents
pub record MayCompute (v : DiskView) (s : SpaceView) (m : Memory) (log : Log) (x : Contents)
    (target : ℕ) (made : Option LevelDesc) (filters : LevelFilters) (others : List Extent)
    : Type 0 where
  pub stands : ContentsStand v x
  pub full : x.sb.mem ≤ length x.journal
  pub promoted : IsPromotedTo stands.content x target made
  pub filtered : AreFiltersOn stands.content (arrays_made made) filters
  pub space : IsSpaceOf s x (extents_of (arrays_made made) ++ others)
  pub memory : IsMemoryOf (contents_head x) m
  pub lawful : IsTrue (is_lawful_manifest newest_format x.chained.manifest)
  pub log_is : IsLogOf x log
  pub chain : List Extent
  pub chain_is : blocks_of chain ≡ x.chained.blocks

-- the next contents are computed, with some levels, and the blocks of the old ones and some others are used beside theirs;
-- the arrays that were made are numbered from the old next number on, their state is paid for where the old one was, and
-- with filters of theirs the filters of the old contents become those of the next ones
pub record IsComputedBy (v : DiskView) (s : SpaceView) (old : Contents) (m : Memory) (log : Log)
    (target : ℕ) (made : Option LevelDesc) (first size : ℕ) (chain others : List Extent)
    (filters : LevelFilters) : Type 0 where
  pub levels : List Level
  pub computed : IsComputed v (1 - old.slot)
      (contents_after old m target made levels first size (blocks_of chain)).sb log old
      (contents_after old m target made levels first size (blocks_of chain))
  pub used : (gone : List Extent) → blocks_of gone ≡ old.chained.blocks
      → IsSpaceOf s (contents_after old m target made levels first size (blocks_of chain))
      (gone ++ (extents_of (arrays_in (descs_to target old.chained.manifest.levels)) ++ others))
  pub fresh : AreNewArrays old.chained.manifest.next_array (arrays_made made)
  pub paid : IsPaid (contents_state old)
      → old.chained.manifest.updates ≤ old.chained.manifest.changes
      → old.sb.mem ≤ length old.journal → IsPaid (contents_state
      (contents_after old m target made levels first size (blocks_of chain)))
  pub filtered : (before : List LevelFilters) → AreFiltersOf old.levels before
      → AreFiltersOf levels (filters_after before target filters)
