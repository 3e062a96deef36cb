-- A promotion that is open over the contents of a store: what it was begun of, how far it is, and what a change does
-- meanwhile.
use Rattle.std.specs.Prelude.{◌≡◌, ◌≤◌, ℕ, ◌+◌, ◌^◌, ◌++◌, nat_lt, List, [], ◌∷◌, length, Option, None, Some, IsTrue}
use Rattle.std.specs.List.{filter_map, list_all, sum}
use Rattle.strat_base.specs.Change.{Change}
use Rattle.strat_base.specs.Entries.{Entry}
use Rattle.strat_base.specs.declared.descriptors.Extent.{Extent}
use Rattle.strat_base.specs.declared.descriptors.LevelDesc.{LevelDesc}
use Rattle.def_crash.specs.Blocks.{KeepsTaken, TearsBlocks}
use Rattle.def_crash.specs.Image.{Image}
use Rattle.def_crash.specs.Moments.{DiskView, Exposes}
use Rattle.strat_extent.specs.Blocks.{SpaceView, is_free}
use Rattle.def_bytes.specs.Layout.{first_free}
use Rattle.strat_journal.specs.Log.{Log, Stands, batch_joined}
use Rattle.strat_level.specs.Levels.{level_numbered}
use Rattle.strat_level.specs.Memtable.{ItemList, entries_held}
use Rattle.strat_level.specs.Target.{IsTarget, leads_down_to}
use Rattle.strat_live.specs.Counting.{SameParents}
use Rattle.strat_promote.specs.Budget.{count_of_key}
use Rattle.strat_promote.specs.Closing.{AreAllUsed}
use Rattle.strat_promote.specs.Job.{Job, AreReadable, arrays_to, input_count}
use Rattle.strat_promote.specs.Promotions.{IsBegun, IsOpen, HasBegun, IsSliced, SamePromotion, ReadsFrom, extents_taken, writers_of, entries_taken, leads_listed, target_of}
use Rattle.strat_promote.specs.Spaces.{TakesMore}
use Rattle.strat_promote.specs.StateInputs.{job_of_state}
use Rattle.strat_promote.specs.Steps.{Inputs}
use Rattle.strat_promote.specs.declared.promotion.Progress.TheVariants as progress
use Rattle.strat_promote.specs.declared.promotion.Promotion.{Promotion}
use Rattle.def_slice.specs.Budget.{EndsInTime, SliceNumbers, budget_for}
use Rattle.def_publish.specs.Appending.{AppendsBatch, IsLogOf}
use Rattle.def_publish.specs.Contents.{Contents, contents_state, sealed_state}
use Rattle.def_publish.specs.Occupied.{IsSpaceOf}
use Rattle.def_publish.specs.Standing.{LeavesContent, ContentsStand}
use Rattle.def_state.specs.Setting.{set_all}
use Rattle.def_state.specs.Sound.{accepts_change}
use Rattle.def_state.specs.State.{State, versions_of, journal_updates}

-- two images have the same bytes in each block behind the journal
abbrev pub KeepsBehind : ℕ → Image → Image → Type 0
KeepsBehind mem f g = KeepsTaken (λ b. nat_lt b (first_free mem)) f g

-- what is lent to a promotion: a memtable with these entries, these levels, and a tree in which the versions of a
-- state have their parents, whatever came since
pub record AreLent (sealed : List Entry) (levels : List (Option LevelDesc)) (s : State)
    (inputs : Inputs) : Type 0 where
  pub zero : entries_held inputs.pool inputs.zero ≡ sealed
  pub levels_are : inputs.levels ≡ levels
  pub parents : SameParents (length (versions_of s)) (versions_of s) inputs.parents

-- a promotion was begun of what fills the active region of contents, a memtable sealed with these entries, and of
-- their levels. It says nothing of a disk, and stays true while changes come
pub record IsBegunOf (x : Contents) (sealed : List Entry) (levels : List (Option LevelDesc))
    (p : Promotion) : Type 0 where
  pub full : x.sb.mem ≤ length x.journal
  pub sealed_is : sealed ≡ set_all (journal_updates (sealed_state x))
  pub listed : filter_map (λ level. level) levels ≡ x.chained.manifest.levels
  pub numbered : (n : ℕ) (level : LevelDesc) → level_numbered levels n ≡ Some level
      → level.number ≡ n
  pub begun : (zero : ItemList) → length zero.items ≡ length sealed
      → IsBegun zero levels x.sb.mem (length (versions_of (sealed_state x)))
      x.chained.manifest.next_array p
  pub few : (zero : ItemList) → length zero.items ≡ length sealed
      → sum (leads_listed zero levels) ≤ 2 ^ 24

-- a sealed memtable and the levels may be read by each slice of a promotion that was begun over so many versions and
-- from this next number on: their versions are older, and numbers are left. It too says nothing of a disk
pub record MayRead (sealed : List Entry) (levels : List (Option LevelDesc))
    (versions next_array : ℕ) : Type 0 where
  pub low : IsTrue (list_all (λ e. nat_lt e.version versions) sealed)
  pub arrays : (j : ℕ) → AreReadable versions (arrays_to levels j)
  pub some : 1 ≤ versions
  pub first : next_array ≤ 2 ^ 63

-- an open promotion: the space from which it takes blocks, the budget of its slices, and how many entries each of its
-- two passes has
pub record OpenPromotion : Type 0 where
  pub promotion : Promotion
  pub space : SpaceView
  pub budget : ℕ
  pub sum : ℕ

-- a promotion that was begun over these leads of level 0 and of the levels, with a space and a budget
abbrev pub opened_with : List ℕ → Promotion → SpaceView → ℕ → OpenPromotion
opened_with leads p space budget = record {
  promotion = p;
  space = space;
  budget = budget;
  sum = leads_down_to leads (target_of p);
}

-- what a promotion that was begun so is to do
abbrev pub job_open : Contents → List (Option LevelDesc) → Promotion → Job
job_open x levels was = job_of_state (sealed_state x) levels (target_of was)

-- a promotion may go on over contents, whatever a disk has: it was begun of what they sealed, each slice may read
-- that, the blocks that it has taken are used, and it has only blocks of its arrays still to read
pub record MayBeSliced (x : Contents) (sealed : List Entry) (levels : List (Option LevelDesc))
    (o : OpenPromotion) : Type 0 where
  pub was : Promotion
  pub begun : IsBegunOf x sealed levels was
  pub may : MayRead sealed levels (length (versions_of (sealed_state x)))
      x.chained.manifest.next_array
  pub same : SamePromotion was o.promotion
  pub steady : IsOpen o.promotion
  pub used : AreAllUsed o.space (writers_of o.promotion)
  pub some : 1 ≤ o.budget
  pub reads : ReadsFrom (job_open x levels was).arrays o.promotion

-- a promotion is open over contents, as an image has them, at this fill of the journal: it may go on and is underway;
-- the blocks that it has taken are used beside those of the contents and some others; and it ends in time
pub record IsOpenOver (f : Image) (x : Contents) (fill : ℕ) (sealed : List Entry)
    (levels : List (Option LevelDesc)) (others : List Extent) (o : OpenPromotion) : Type 0 where
  pub going : MayBeSliced x sealed levels o
  pub underway : HasBegun f (job_open x levels going.was) o.promotion
  pub space_is : IsSpaceOf o.space x (extents_taken o.promotion ++ others)
  pub sum_is : o.sum ≡ input_count f (job_open x levels going.was)
  pub on_time : EndsInTime x.sb.mem fill o.sum o.budget (entries_taken o.promotion)

-- contents stand on a disk, and a promotion is open over them
pub record StandsOpen (v : DiskView) (x : Contents) (sealed : List Entry)
    (levels : List (Option LevelDesc)) (others : List Extent) (o : OpenPromotion) : Type 0 where
  pub stands : ContentsStand v x
  pub open_over : IsOpenOver stands.content x (length x.journal) sealed levels others o

-- an open promotion after a slice
abbrev pub sliced_to : OpenPromotion → Promotion → SpaceView → OpenPromotion
sliced_to o q space = record o { promotion = q; space = space }

-- what a slice did that left an entry, wherever it read and wrote: the promotion is the same one, further on, and
-- took only blocks that were free
pub record LeavesEntry (old new : DiskView) (job : Job) (o : OpenPromotion) (q : Promotion)
    (space : SpaceView) : Type 0 where
  pub tears : TearsBlocks (is_free o.space) old new
  pub same : SamePromotion o.promotion q
  pub steady : IsOpen q
  pub takes : TakesMore o.space space (extents_taken o.promotion) (extents_taken q)
  pub used : AreAllUsed space (writers_of q)
  pub reads : ReadsFrom job.arrays o.promotion → ReadsFrom job.arrays q
  pub most : entries_taken o.promotion + o.budget ≤ entries_taken q
  pub sliced : (f g : Image) → Exposes old f → Exposes new g
      → IsSliced f g job (entries_taken o.promotion + o.budget) q progress.More

-- a journal in memory appended its one change, in whichever region takes it
pub record AppendsOne (old new : DiskView) (log : Log) (change : Change) : Type 0 where
  pub one : log.batch ≡ change ∷ []
  pub appends : AppendsBatch old new log
  pub stands : Stands new (batch_joined log)
  pub behind : (f g : Image) → Exposes old f → Exposes new g → KeepsBehind log.mem f g

-- a change over an open promotion: a slice that left an entry, and then the record of the change, which the state
-- accepts
pub record StepsOpen (v0 v1 v2 : DiskView) (x : Contents) (job : Job) (o : OpenPromotion)
    (q : Promotion) (space : SpaceView) (log : Log) (change : Change) : Type 0 where
  pub slice : LeavesEntry v0 v1 job o q space
  pub left : LeavesContent v1
  pub log_is : IsLogOf x log
  pub append : AppendsOne v1 v2 log change
  pub leaves : LeavesContent v2
  pub accepted : IsTrue (accepts_change (contents_state x) change)

-- the numbers of an open promotion
abbrev pub slice_numbers : OpenPromotion → SliceNumbers
slice_numbers o =
    record { budget = o.budget; sum = o.sum; taken = entries_taken o.promotion }

-- these are the numbers of the promotion that is open; or, where none is, of the one that a change begins at this
-- fill over these leads of level 0 and of the levels
abbrev pub AreNumbersOf : ℕ → ℕ → List ℕ → Option OpenPromotion → SliceNumbers → Type 0
AreNumbersOf mem fill leads (Some o) n = n ≡ slice_numbers o
AreNumbersOf mem fill leads None n =
    (target : ℕ) × IsTarget leads mem target
    × (n ≡ record {
      budget = budget_for mem fill (leads_down_to leads target);
      sum = leads_down_to leads target;
      taken = 0;
    })

-- no key has more entries among those that are merged
abbrev pub IsMostOfKey : Image → Job → ℕ → Type 0
IsMostOfKey f job most = (key : List ℕ) → count_of_key f job key ≤ most
