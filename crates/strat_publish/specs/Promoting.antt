-- A promotion of what a store has in memory.
use Rattle.std.specs.Prelude.{◌≡◌, ◌≤◌, ◌<◌, ◌==◌, ℕ, ◌+◌, ◌++◌, ◌∷◌, ◌^◌, nat_lt, Bool, List, length, map, Option, IsTrue}
use Rattle.std.specs.List.{count_by, list_all, range_with_len, sum}
use Rattle.strat_base.specs.declared.descriptors.Extent.{Extent}
use Rattle.strat_base.specs.declared.descriptors.LevelDesc.{LevelDesc}
use Rattle.strat_array.specs.Kept.{Blocks}
use Rattle.strat_extent.specs.Blocks.{SpaceView, times_in, used_count, uses}
use Rattle.def_bytes.specs.Arrays.{blocks_of}
use Rattle.def_bytes.specs.Layout.{first_free}
use Rattle.def_crash.specs.Image.{Image}
use Rattle.def_crash.specs.Moments.{DiskView, Exposes}
use Rattle.strat_level.specs.Levels.{level_numbered, leads_if_any}
use Rattle.strat_promote.specs.Job.{AreReadable}
use Rattle.strat_promote.specs.StateInputs.{LeavesPaid, job_of_state}
use Rattle.def_promote.specs.Promoted.{promoted, levels_behind}
use Rattle.def_publish.specs.Contents.{Contents, contents_state, sealed_state}
use Rattle.def_slice.specs.Ending.{IsLastMade}
use Rattle.def_slice.specs.Budget.{KeepsToBudget, SliceNumbers}
use Rattle.def_slice.specs.Opened.{IsMostOfKey, OpenPromotion, slice_numbers}
use Rattle.def_publish.specs.Next.{arrays_made}
use Rattle.def_publish.specs.Occupied.{IsSpaceOf, extents_of}
use Rattle.def_state.specs.State.{IsPaid}
use Rattle.strat_cursor.specs.Looking.{arrays_there}
use Rattle.strat_memory.specs.Filters.{AreFiltersOn, LevelFilters}
use Rattle.strat_memory.specs.Held.{Held, IsOpenAt, StandsWith, blocks_named}
use Rattle.strat_memory.specs.Memory.{Memory, oldest_entries, oldest_versions}
use Rattle.strat_memory.specs.RecoveredFields.{held_of}
use Rattle.strat_memory.specs.declared.open_store.OpenStore.{OpenStore}
use Rattle.strat_promote.specs.Promotions.{FiltersStand, arrays_promoted, level_of, target_of}
use Rattle.strat_promote.specs.declared.promotion.Promotion.{Promotion}

-- how many leads what is sealed has, or level 0 where nothing is, and then levels 1 to 22
abbrev pub leads_in_memory : Memory → List (Option LevelDesc) → List ℕ
leads_in_memory m levels =
    length (oldest_entries m)
    ∷ map (λ n. leads_if_any (level_numbered levels n)) (range_with_len 1 22)

-- what is sealed, or level 0 where nothing is, and the levels may be promoted into arrays that are numbered from a number on:
-- their versions were there when it was sealed, and they have no more leads than any store
pub record MayPromote (m : Memory) (levels : List (Option LevelDesc)) (next_array : ℕ)
    : Type 0 where
  pub low : IsTrue (list_all (λ e. nat_lt e.version (oldest_versions m)) (oldest_entries m))
  pub arrays : AreReadable (oldest_versions m) (arrays_there levels)
  pub some : 1 ≤ oldest_versions m
  pub few : sum (leads_in_memory m levels) ≤ 2 ^ 24
  pub first : next_array ≤ 2 ^ 63

-- the level that was made of what fills the active region of contents, and of their levels down to a target, stands in an image
-- as the last slice of a promotion leaves it, and is paid for
pub record IsPromotedTo (g : Image) (x : Contents) (target : ℕ) (made : Option LevelDesc)
    : Type 0 where
  pub last : IsLastMade g x target made
  pub paid : IsPaid (contents_state x) → x.chained.manifest.updates ≤ x.chained.manifest.changes
      → LeavesPaid g made (sealed_state x) (λ fresh written next.
      promoted (sealed_state x) (fresh ++ levels_behind target x.levels) written next)

-- some filters were taken of the arrays that a promotion made, which are numbered from one on: each is of exactly the keys of
-- its array in an image where those of the promotion stood, and the promotion is else as it was
pub record HasTaken (old now : Promotion) (first : ℕ) (kept : List (Option (List Bool)))
    : Type 0 where
  pub stand : (g : Image) → FiltersStand g old → FiltersStand g now
  pub level : now.level ≡ old.level
  pub task : now.task ≡ old.task
  pub ended : now.is_done ≡ old.is_done
  pub filters : (g : Image) → FiltersStand g old
      → AreFiltersOn g (arrays_promoted old) (record { first = first; kept = kept })

-- a store stands with contents, and a promotion beside it is open over them
pub record StandsOpenWith (v : DiskView) (s : Held) (x : Contents) (o : OpenPromotion)
    : Type 0 where
  pub stands : StandsWith v s x
  pub over : IsOpenAt stands.stands.content s x (length s.log.list) o

-- where a store stands with an open promotion, it keeps to the budget of that and has these numbers afterwards
abbrev pub KeepsOpenToBudget : DiskView → OpenStore → OpenPromotion → Option SliceNumbers → Type 0
KeepsOpenToBudget v held o now = (f : Image) (x : Contents) (cached : Blocks) (most : ℕ)
    → Exposes v f → StandsOpenWith v (held_of held cached) x o
    → IsMostOfKey f
    (job_of_state (sealed_state x) held.published.levels (target_of o.promotion)) most
    → KeepsToBudget (slice_numbers o) most now

-- a promotion made this level of what a store holds, whatever its disk: its space has the blocks of the manifest, those of the
-- level and those of the arrays that are kept for cursors, none of them twice
pub record HasMade (s : Held) (space : SpaceView) (target : ℕ) (made : Option LevelDesc)
    : Type 0 where
  pub low : 1 ≤ target
  pub fits : target ≤ 22
  pub first : space.first ≡ first_free s.sb.mem
  pub apart : (b : ℕ) → count_by (λ other. other == b) (blocks_named s.chained)
      + (times_in (extents_of (arrays_made made)) b
      + times_in (extents_of s.memory.cursors.retired) b) ≤ uses space b

-- the level that a promotion made stands beside contents: its blocks are used beside theirs and some others, and but for its
-- own more than 2^30 are free
pub record IsMadeBeside (v : DiskView) (x : Contents) (space : SpaceView) (target : ℕ)
    (made : Option LevelDesc) : Type 0 where
  pub promoted : (g : Image) → Exposes v g → IsPromotedTo g x target made
  pub others : List Extent
  pub space_is : IsSpaceOf space x (extents_of (arrays_made made) ++ others)
  pub room : space.first + used_count space + 2 ^ 30
      < 4294967295 + length (blocks_of (extents_of (arrays_made made)))

-- a store stands with contents, and what a promotion made that has ended stands beside them, with its filters
pub record StandsEnded (v : DiskView) (s : Held) (x : Contents) (o : OpenPromotion) : Type 0 where
  pub stands : StandsWith v s x
  pub beside : IsMadeBeside v x o.space (target_of o.promotion) (level_of o.promotion)
  pub filtered : (g : Image) → Exposes v g → FiltersStand g o.promotion

-- a store stands with contents, and a level that was made of them stands beside them, with filters of its arrays
pub record StandsMade (v : DiskView) (s : Held) (x : Contents) (space : SpaceView) (target : ℕ)
    (made : Option LevelDesc) (filters : LevelFilters) : Type 0 where
  pub stands : StandsWith v s x
  pub beside : IsMadeBeside v x space target made
  pub filtered : (g : Image) → Exposes v g → AreFiltersOn g (arrays_made made) filters
