-- What a crash leaves of a disk on which a store was opened and carried out commands.
use Rattle.std.specs.Prelude.{◌≡◌, ◌≢◌, ◌≤◌, ◌<◌, ◌⊎◌, ℕ, List, [], ◌∷◌, length, replicate, None, Some, false, Ok}
use Rattle.def_crash.specs.Image.{Image, Outside}
use Rattle.def_crash.specs.Moments.{DiskView, Exposes, Images, Since, KeepsImages}
use Rattle.def_crash.specs.Trail.{At, Trail}
use Rattle.strat_cursor.specs.Held.{no_cursors}
use Rattle.def_bytes.specs.Chained.{manifest_at}
use Rattle.def_bytes.specs.Layout.{region_at, other_region, open_flag}
use Rattle.def_bytes.specs.SuperBlock.{Super, newest_in}
use Rattle.strat_model.specs.Table.{Table}
use Rattle.def_recovery.specs.Opening.{recover}
use Rattle.def_meaning.specs.StateTable.{table_of}
use Rattle.def_publish.specs.Contents.{Contents, contents_state}
use Rattle.def_publish.specs.Standing.{ShowsTable}
use Rattle.strat_memory.specs.Filters.{no_filters}
use Rattle.strat_memory.specs.Held.{Held, head_held, IsOnDisk, StandsWith}
use Rattle.strat_memory.specs.Paying.{IsPaidIn, ArePaidSince, StoreTwoSince}

-- a disk with this content was synced, and from then on followed tables
pub record FollowsFrom (before now : DiskView) (f : Image) (tables : List Table) (n : ℕ)
    : Type 0 where
  -- the moment of the sync, at which a crash leaves the content and nothing else
  pub synced : ℕ
  pub from : before.moment ≤ synced
  pub till : synced ≤ now.moment
  pub content : now.images_at synced f
  pub one : (c : Image) → now.images_at synced c → c ≡ f
  -- until then a crash leaves only what it might have left before
  pub until : (m : ℕ) (c : Image) → before.moment ≤ m → m ≤ synced → now.images_at m c
      → Images before c
  -- from then on there is a trail of the tables
  pub trail : Trail ShowsTable now synced tables n
  -- which says of now: each image shows a table at place n or behind it
  pub left : (c : Image) → Images now c → (i : ℕ) × (n ≤ i) × At tables i (ShowsTable c)
  -- each image from then on stores at most two entries for each update, and is paid for if the content is
  pub stored : StoreTwoSince now synced
  pub paid : IsPaidIn f → ArePaidSince now synced

-- a disk is left as it was: it has the content of before, and a crash leaves only what it might
-- have left before
abbrev pub IsUnchanged : DiskView → DiskView → Type 0
IsUnchanged before now = (now.content ≡ before.content) × KeepsImages before now

-- this superblock is the newest of a content, and each image since is one of those before, or differs from the content in
-- the first gate alone of the region that is not active
pub record ChangesGateAlone (before now : DiskView) (f : Image) (slot : ℕ) (sb : Super)
    : Type 0 where
  pub newest : newest_in f ≡ Ok (Some (slot, sb))
  pub images : (c : Image) → Since now before.moment c
      → Images before c ⊎ Outside (region_at sb.mem (other_region sb.region)) 1 f c

-- a store was opened, without cursors, filters and an open promotion: it holds what recovery finds in the content, and where that shows a table the store stands on the
-- disk with contents that mean it, and a crash leaves that table from the opening's sync on
pub record IsOpenedAs (before now : DiskView) (s : Held) : Type 0 where
  pub going : s.spent ≡ false
  pub closed : s.memory.cursors ≡ no_cursors
  pub unfiltered : s.filters ≡ replicate 22 no_filters
  pub unbegun : s.promoting ≡ None
  pub found : (f : Image) → Exposes before f → recover f ≡ Ok (Some (head_held s))
  pub chain : (f : Image) → Exposes before f
      → manifest_at s.sb.format f s.sb.manifest s.sb.length ≡ Ok s.chained
  pub gate : (f : Image) → Exposes before f → ChangesGateAlone before now f s.slot s.sb
  pub on_disk : (f : Image) → Exposes before f → IsOnDisk now s
  -- whatever the content shows, a crash leaves it but for that gate, which is shut where the active region has room
  pub alone : (f : Image) → Exposes before f → (c : Image) → Images now c
      → Outside (region_at s.sb.mem (other_region s.sb.region)) 1 f c
  pub shut : (f : Image) → Exposes before f → length s.log.list < s.sb.mem → (c : Image)
      → Images now c → c (region_at s.sb.mem (other_region s.sb.region)) ≢ open_flag
  -- behind a full region none is shut
  pub whole : (f : Image) → Exposes before f → s.sb.mem ≤ length s.log.list → (c : Image)
      → Images now c → c ≡ f
  pub stands : (f : Image) (t : Table) → Exposes before f → ShowsTable f t
      → (x : Contents) × StandsWith now s x × (table_of (contents_state x) ≡ t)
  pub follows : (f : Image) (t : Table) → Exposes before f → ShowsTable f t
      → FollowsFrom before now f (t ∷ []) 0

-- an opening's last step failed, which shuts a gate: no image differs in more
pub record StopsAtGate (before now : DiskView) (f : Image) : Type 0 where
  pub slot : ℕ
  pub sb : Super
  pub gate : ChangesGateAlone before now f slot sb
  pub follows : (t : Table) → ShowsTable f t → FollowsFrom before now f (t ∷ []) 0

-- an opening of a disk with this content failed: the disk is left as it was, or its sync succeeded and the last step failed,
-- which shuts a gate
abbrev pub LeavesOpening : DiskView → DiskView → Image → Type 0
LeavesOpening before now f = IsUnchanged before now ⊎ StopsAtGate before now f
