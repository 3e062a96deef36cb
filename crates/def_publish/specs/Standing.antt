-- What a store stands on: the contents that every image of its disk has. The images may differ in blocks that
-- nothing names.
use Rattle.std.specs.Prelude.{◌≡◌, ◌≢◌, ◌≤◌, ◌<◌, ℕ, Bool, false, List, length, Some, IfSome, Ok, IsTrue}
use Rattle.std.specs.List.{Contains}
use Rattle.def_crash.specs.Image.{Image, SameIn}
use Rattle.def_crash.specs.Moments.{DiskView, Exposes, Images}
use Rattle.def_state.specs.Sound.{IsSound}
use Rattle.def_state.specs.State.{State}
use Rattle.def_bytes.specs.Arrays.{all_some}
use Rattle.def_bytes.specs.Chained.{manifest_at}
use Rattle.def_bytes.specs.Layout.{region_at, other_region, first_free, open_flag}
use Rattle.def_bytes.specs.Records.{Logged, journal_in_two}
use Rattle.def_bytes.specs.SuperBlock.{newest_in}
use Rattle.strat_model.specs.Table.{Table}
use Rattle.def_recovery.specs.Opened.{parents_in, level_on}
use Rattle.def_recovery.specs.Opening.{belongs, accepted_in, reads_as}
use Rattle.def_meaning.specs.StateTable.{table_of}
use Rattle.def_publish.specs.Contents.{Contents, contents_state, named_blocks}

-- an image has the manifest of these contents where their superblock says, and the arrays where the
-- manifest says; of the slots and the journal it says nothing
pub record LiesIn (c : Image) (x : Contents) : Type 0 where
  pub chain : manifest_at x.sb.format c x.sb.manifest x.sb.length ≡ Ok x.chained
  pub belonging : IsTrue (belongs x.sb x.chained)
  pub arrays : all_some (level_on c) x.chained.manifest.levels ≡ Some x.levels

-- an image has the journal of these contents, in their active region and, once it is full, in the other one too, each
-- change accepted in its turn
pub record IsLogged (c : Image) (x : Contents) : Type 0 where
  pub logged : List Logged
  pub read : journal_in_two c x.sb.mem x.sb.region ≡ Ok logged
  pub accepted :
      accepted_in x.sb.changes_max x.sb.versions_max (parents_in x.chained.manifest)
      x.chained.manifest.marks x.chained.manifest.changes logged
      ≡ Ok x.journal

-- an image reads as these contents: their superblock is its newest one, and it has all the rest
pub record ReadsAs (c : Image) (x : Contents) : Type 0 where
  pub newest : newest_in c ≡ Ok (Some (x.slot, x.sb))
  pub lies : LiesIn c x
  pub logged : IsLogged c x

-- an image shows a table: it reads as a sound state, and that state means the table
pub record ShowsTable (c : Image) (t : Table) : Type 0 where
  pub state : State
  pub reads : reads_as c ≡ Some state
  pub sound : IsSound state
  pub table : table_of state ≡ t

-- these blocks are free beside contents: none is a slot's or a journal region's, and none is named
pub record AreFree (free : ℕ → Bool) (x : Contents) : Type 0 where
  pub behind : (b : ℕ) → b < first_free x.sb.mem → free b ≡ false
  pub unnamed : (b : ℕ) → Contains (named_blocks x) b → free b ≡ false

-- what a read of a disk gives a crash may leave, where the disk exposes it
abbrev pub LeavesContent : DiskView → Type 0
LeavesContent v = IfSome v.content (Images v)

-- contents stand on a disk: a read and every crash give them, with the same slots, they are sound, and
-- where nothing is in it, the first gate of the region that is not active is shut
pub record ContentsStand (v : DiskView) (x : Contents) : Type 0 where
  pub content : Image
  pub exposed : Exposes v content
  pub left : Images v content
  pub reads : (c : Image) → Images v c → ReadsAs c x
  pub slots : (c : Image) → Images v c → SameIn 0 8192 content c
  pub shut : (c : Image) → Images v c → length x.journal ≤ x.sb.mem
      → c (region_at x.sb.mem (other_region x.sb.region)) ≢ open_flag
  pub sound : IsSound (contents_state x)
