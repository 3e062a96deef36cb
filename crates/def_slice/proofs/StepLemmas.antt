-- A change over an open promotion: one slice, and then its record.
use Rattle.std.proofs.Common.{◌≤◌, ◌+◌, ◌-◌, ◌*◌, ℕ, List, [], ◌∷◌, ◌++◌, length, Option, sym, subst, arith}
use Rattle.strat_base.specs.Change.{Change}
use Rattle.strat_base.specs.Entries.{Entry}
use Rattle.strat_base.specs.declared.descriptors.Extent.{Extent}
use Rattle.strat_base.specs.declared.descriptors.LevelDesc.{LevelDesc}
use Rattle.def_crash.specs.Moments.{DiskView}
use Rattle.def_crash.specs.Trail.{Trail}
use Rattle.def_crash.proofs.TrailLemmas.{trail_join}
use Rattle.strat_extent.specs.Blocks.{SpaceView, is_free}
use Rattle.strat_journal.specs.Log.{Log}
use Rattle.def_slice.specs.Opened.{KeepsBehind, OpenPromotion, IsOpenOver, LeavesEntry, AppendsOne, StandsOpen, StepsOpen, job_open, sliced_to}
use Rattle.def_slice.proofs.OpenedLemmas.{sliced_open, appended_open}
use Rattle.strat_promote.specs.Promotions.{extents_taken}
use Rattle.strat_promote.specs.declared.promotion.Promotion.{Promotion}
use Rattle.def_meaning.specs.StateTable.{table_of}
use Rattle.def_meaning.proofs.StateTableLemmas.{stays_sound}
use Rattle.def_publish.specs.Appending.{with_batch}
use Rattle.def_publish.specs.Contents.{Contents, contents_state}
use Rattle.def_publish.specs.Standing.{ShowsTable, ContentsStand}
use Rattle.def_publish.proofs.AppendLemmas.{appended_trail, appended_stands}
use Rattle.def_publish.proofs.FreeLemmas.{free_trail, free_stands}
use Rattle.def_publish.proofs.OccupiedLemmas.{free_beside}
use Rattle.def_state.specs.Sound.{IsSound, Takes}

module _ (v0 v1 v2 : DiskView) (x : Contents) (sealed : List Entry) (levels : List (Option LevelDesc)) (others : List Extent) (o : OpenPromotion) (q : Promotion) (space : SpaceView) (log : Log) (change : Change)
    (s : StandsOpen v0 x sealed levels others o) (steps : StepsOpen v0 v1 v2 x (job_open x levels s.open_over.going.was) o q space log change) where
  abbrev slice : LeavesEntry v0 v1 (job_open x levels s.open_over.going.was) o q space
  slice = steps.slice

  abbrev append : AppendsOne v1 v2 log change
  append = steps.append

  pub stands1 : ContentsStand v1 x
  stands1 = free_stands (is_free o.space) x (free_beside o.space x (extents_taken o.promotion ++ others) s.open_over.space_is) v0 v1 slice.tears s.stands steps.left

  abbrev pub after : OpenPromotion
  after = sliced_to o q space

  pub sliced : (length x.journal + 1 ≤ 2 * x.sb.mem - 2) × IsOpenOver stands1.content x (length x.journal + 1) sealed levels others after
  sliced = sliced_open v0 v1 s.stands.content stands1.content x sealed levels others o q space s.stands.exposed stands1.exposed s.open_over slice

  -- so the journal has room for the change
  pub takes : Takes (contents_state x) change
  takes = record { sound = s.stands.sound; accepted = steps.accepted; room = omega (arith, sliced.0) }

  abbrev next : Contents
  next = with_batch x (change ∷ [])

  sound : IsSound (contents_state (with_batch x log.batch))
  sound = subst (λ (b : List Change). IsSound (contents_state (with_batch x b))) (sym append.one) (stays_sound (contents_state x) change takes)

  pub stands2 : ContentsStand v2 next
  stands2 = subst (λ (b : List Change). ContentsStand v2 (with_batch x b)) append.one (appended_stands v1 v2 x log stands1 steps.log_is append.appends sound append.stands steps.leaves)

  trail1 : Trail ShowsTable v1 v0.moment (table_of (contents_state x) ∷ []) 0
  trail1 = free_trail (is_free o.space) x (free_beside o.space x (extents_taken o.promotion ++ others) s.open_over.space_is) v0 v1 slice.tears s.stands

  trail2 : Trail ShowsTable v2 v1.moment (table_of (contents_state x) ∷ table_of (contents_state next) ∷ []) 1
  trail2 = subst (λ (b : List Change). Trail ShowsTable v2 v1.moment (table_of (contents_state x) ∷ table_of (contents_state (with_batch x b)) ∷ []) 1) append.one
      (appended_trail v1 v2 x log stands1 steps.log_is append.appends sound append.stands)

  -- a trail of two tables
  pub whole_trail : Trail ShowsTable v2 v0.moment (table_of (contents_state x) ∷ table_of (contents_state next) ∷ []) 1
  whole_trail = trail_join ShowsTable v1 v2 v0.moment [] (table_of (contents_state next) ∷ []) (table_of (contents_state x)) 1 append.appends.time trail1 trail2

  -- after which the promotion is open over the contents with the change
  pub still_open : StandsOpen v2 next sealed levels others after
  still_open = record {
    stands = stands2;
    open_over = appended_open stands1.content stands2.content x sealed levels others after change (stands1.reads stands1.content stands1.left) sliced.1
        (subst (λ (n : ℕ). KeepsBehind n stands1.content stands2.content) steps.log_is.mem (append.behind stands1.content stands2.content stands1.exposed stands2.exposed));
  }
