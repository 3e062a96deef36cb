-- The change that ends an open promotion: what the last slice made, and its publication.
use Rattle.std.specs.Prelude.{◌≡◌, ℕ, ◌+◌, ◌++◌, Bool, List, Option, Some, IsTrue}
use Rattle.strat_base.specs.Change.{Change}
use Rattle.strat_base.specs.Entries.{Entry}
use Rattle.strat_base.specs.declared.descriptors.LevelDesc.{LevelDesc}
use Rattle.def_crash.specs.Blocks.{TearsBlocks}
use Rattle.def_crash.specs.Image.{Image}
use Rattle.def_crash.specs.Moments.{DiskView, Passes, TearsOnly}
use Rattle.strat_extent.specs.Blocks.{is_free}
use Rattle.def_bytes.specs.Layout.{region_at}
use Rattle.strat_journal.specs.Log.{Log, IsRegionShut}
use Rattle.strat_promote.specs.Job.{Job}
use Rattle.strat_promote.specs.Promotions.{IsSliced, SamePromotion, entries_taken}
use Rattle.strat_promote.specs.Replacing.{LeavesTheSame}
use Rattle.strat_promote.specs.Steps.{Inputs}
use Rattle.strat_promote.specs.declared.promotion.Progress.TheVariants as progress
use Rattle.strat_promote.specs.declared.promotion.Promotion.{Promotion}
use Rattle.def_promote.specs.Promoted.{promoted, levels_behind}
use Rattle.def_promote.specs.Sealed.{grown_by}
use Rattle.def_slice.specs.Opened.{AreLent, OpenPromotion, AppendsOne}
use Rattle.def_publish.specs.Appending.{IsLogOf}
use Rattle.def_publish.specs.Contents.{Contents, contents_state, sealed_state, later_part}
use Rattle.def_publish.specs.Next.{AreNewArrays, arrays_made}
use Rattle.def_publish.specs.Publication.{IsPrepared, LaysSuper, HasLaid}
use Rattle.def_publish.specs.Standing.{ReadsAs, LeavesContent}
use Rattle.def_state.specs.Sound.{accepts_change, IsSound}

-- the last slice of an open promotion with this job: what it was given, and what it did between two images
pub record SlicesLast (f g : Image) (x : Contents) (sealed : List Entry)
    (levels : List (Option LevelDesc)) (job : Job) (o : OpenPromotion) (q : Promotion)
    (inputs : Inputs) : Type 0 where
  pub reads : ReadsAs f x
  pub sound : IsSound (contents_state x)
  pub lent : AreLent sealed levels (sealed_state x) inputs
  pub same : SamePromotion o.promotion q
  pub sliced : IsSliced f g job (entries_taken o.promotion + o.budget) q progress.Done

-- what the last slice made stands in an image, in new arrays: in the place of what was sealed and of the levels down
-- to the target it leaves a sound state that says the same, with the later changes behind it
pub record IsLastMade (g : Image) (x : Contents) (target : ℕ) (made : Option LevelDesc)
    : Type 0 where
  pub says : LeavesTheSame g made (contents_state x) (λ fresh written next.
      grown_by (promoted (sealed_state x) (fresh ++ levels_behind target x.levels) written next)
      (later_part x))
  pub fresh : AreNewArrays x.chained.manifest.next_array (arrays_made made)
  pub numbered : (level : LevelDesc) → made ≡ Some level → level.number ≡ target

-- what a publication did that ended well: the last slice and the manifest wrote free blocks, the next superblock was
-- laid, and the journal was turned, so that the region which was full is shut
pub record PublishesNext (old mid lay new : DiskView) (free : ℕ → Bool) (x y : Contents)
    (log : Log) : Type 0 where
  pub tears : TearsBlocks free old mid
  pub prepared : IsPrepared mid x y
  pub lays : LaysSuper mid lay y.slot y.sb
  pub laid : HasLaid mid lay y.slot y.sb
  pub left : LeavesContent lay
  pub torn : TearsOnly lay new (region_at log.mem log.active) 1
  pub time : Passes lay new
  pub shut : IsRegionShut new log.mem log.active
  pub leaves : LeavesContent new

-- a change that ends an open promotion: the next contents were published, and then the record of the change, which
-- the state accepts, joined their journal
pub record EndsOpen (v0 mid lay v1 v2 : DiskView) (x y : Contents) (o : OpenPromotion)
    (log turned : Log) (change : Change) : Type 0 where
  pub publishes : PublishesNext v0 mid lay v1 (is_free o.space) x y log
  pub log_is : IsLogOf x log
  pub turned_is : IsLogOf y turned
  pub append : AppendsOne v1 v2 turned change
  pub leaves : LeavesContent v2
  pub accepted : IsTrue (accepts_change (contents_state x) change)
