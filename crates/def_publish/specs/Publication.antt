-- A publication: contents take the place of others that mean the same table.
use Rattle.std.specs.Prelude.{◌≡◌, ◌<◌, ℕ, ◌-◌, ◌*◌, Some, Ok}
use Rattle.def_crash.specs.Image.{Image}
use Rattle.def_crash.specs.Moments.{DiskView, Images, Since, Passes, TearsOnly, IsDurable}
use Rattle.def_bytes.specs.Layout.{other_region, newest_format}
use Rattle.def_bytes.specs.SuperBlock.{Super, IsLawful, newest_in}
use Rattle.strat_gate.specs.Laying.{LaysOver, OldOrNew}
use Rattle.def_promote.specs.Promoted.{SaysTheSame}
use Rattle.def_recovery.specs.Head.{parent_numbers}
use Rattle.def_state.specs.Sound.{IsSound}
use Rattle.def_state.specs.State.{versions_of, updates_of, changes_of, marks_of}
use Rattle.def_publish.specs.Contents.{Contents, contents_state, sealed_state, later_part}
use Rattle.def_publish.specs.Standing.{LiesIn, ContentsStand}

-- contents may take the place of others: a lawful superblock of a greater generation for the other slot,
-- the journal that came behind a full region, and a sound state that says the same. The region need not be full, nor
-- have a change at all: then nothing came behind it
pub record Succeeds (old new : Contents) : Type 0 where
  pub lawful : IsLawful new.sb
  pub slot : new.slot ≡ 1 - old.slot
  pub later : old.sb.generation < new.sb.generation
  pub region : new.sb.region ≡ other_region old.sb.region
  pub journal : new.journal ≡ later_part old
  pub sound : IsSound (contents_state new)
  pub says : SaysTheSame (contents_state old) (contents_state new)

-- contents stand on a disk, and of those that are to take their place a read and every crash give all
-- but the superblock
pub record IsPrepared (v : DiskView) (old new : Contents) : Type 0 where
  pub stands : ContentsStand v old
  pub next : Succeeds old new
  pub lies : (c : Image) → Images v c → LiesIn c new

-- what a call that lays a superblock into a slot does, also where it fails: it tears that slot's block
-- alone, and where the slot may be laid over the newest superblock is at any moment that of before or
-- this one
pub record LaysSuper (old new : DiskView) (slot : ℕ) (sb : Super) : Type 0 where
  pub images : TearsOnly old new (4096 * slot) 4096
  pub time : Passes old new
  pub each : (f : Image) → LaysOver old f slot sb
      → (c : Image) → Since new old.moment c → OldOrNew f slot sb c

-- once it succeeded a crash leaves one image, and that superblock is the newest
pub record HasLaid (old new : DiskView) (slot : ℕ) (sb : Super) : Type 0 where
  pub durable : IsDurable new
  pub found : (f : Image) → LaysOver old f slot sb
      → (c : Image) → Images new c → newest_in c ≡ Ok (Some (slot, sb))

-- the manifest, the limits and the journal of contents are those that a promotion of what others sealed leaves, in the
-- newest format, whatever its levels are
pub record IsPromotedFrom (old new : Contents) : Type 0 where
  pub mem : new.sb.mem ≡ old.sb.mem
  pub changes_max : new.sb.changes_max ≡ old.sb.changes_max
  pub versions_max : new.sb.versions_max ≡ old.sb.versions_max
  pub format : new.sb.format ≡ newest_format
  pub parents : new.chained.manifest.parents ≡ parent_numbers (versions_of (sealed_state old))
  pub marks : new.chained.manifest.marks ≡ marks_of (sealed_state old)
  pub compacted : new.chained.manifest.compacted ≡ old.chained.manifest.compacted
  pub updates : new.chained.manifest.updates ≡ updates_of (sealed_state old)
  pub changes : new.chained.manifest.changes ≡ changes_of (sealed_state old)
  pub journal : new.journal ≡ later_part old
