-- Runs over disks whose images show several tables.
use Rattle.std.proofs.Common.{◌≡◌, ◌≤◌, ◌⊎◌, inl, inr, ℕ, zero, suc, List, [], ◌∷◌, refl, arith}
use Rattle.std.proofs.lemmas.Bool.{cases_lt}
use Rattle.def_crash.specs.Image.{Image}
use Rattle.def_crash.specs.Moments.{DiskView, Exposes, Images, Since}
use Rattle.def_crash.specs.Trail.{At, Trail}
use Rattle.def_crash.proofs.MomentLemmas.{at_told}
use Rattle.strat_model.specs.Batch.{tables_continued}
use Rattle.strat_model.specs.Run.{Position, Transcript}
use Rattle.strat_model.specs.Table.{Table}
use Rattle.strat_model.specs.declared.ended.Ended.{Ended}
use Rattle.strat_model.specs.declared.ended.Ended.TheVariants as ended
use Rattle.def_publish.specs.Several.{EachShows, ShowOneOfSince, ShowsOneOf}
use Rattle.def_publish.specs.Standing.{LeavesContent, ShowsTable}
use Rattle.strat_open.specs.Following.{FollowsFrom, IsUnchanged, LeavesOpening}
use Rattle.strat_loop.specs.Session.{GaveUp}
use Rattle.strat_serve.specs.Tables.{GoesThroughTables}
use Rattle.strat_loop.specs.World.{World}

only : (c : Image) (t : Table) (i : ℕ) → At (t ∷ []) i (ShowsTable c) → ShowsTable c t
only c t zero here = here
only c t (suc i) here = absurd here

module _ (before now : DiskView) (each : EachShows before) where
  was : (c : Image) → Images before c → ShowsOneOf before c
  was c left = record { table = (each c left).0; shows = (each c left).1; image = c; left = left; same = (each c left).1 }

  -- up to some moment the images are those of before, and from then on they show these tables
  through : (synced : ℕ) (tables : List Table) (n : ℕ) → ((m : ℕ) (c : Image) → before.moment ≤ m → m ≤ synced → now.images_at m c → Images before c) → Trail ShowsTable now synced tables n
      → (c : Image) → Since now before.moment c → ShowsOneOf before c ⊎ ((i : ℕ) × At tables i (ShowsTable c))
  through synced tables n until trail c since = elim (cases_lt since.at synced) [
    | inl early ↦ inl (was c (until since.at c since.from (omega (arith, early)) since.left))
    | inr late ↦
        let one = trail.each 0 since.at c (omega arith) (omega (arith, late, trail.first)) since.till since.left in
        inr (one.0, one.2)
  ]

  -- a run that was served
  pub goes_whole : (run : Transcript) (end : Position) (f : Image) → GoesThroughTables run end f before now → (c : Image) → Since now before.moment c
      → ShowsOneOf before c ⊎ ((i : ℕ) × At (tables_continued run end) i (ShowsTable c))
  goes_whole run end f goes = through goes.synced (tables_continued run end) _ goes.until goes.trail

  -- an opening that failed, and the images from its sync on show the table of the content
  unchanged_whole : IsUnchanged before now → ShowOneOfSince before now
  unchanged_whole unchanged = λ c since. was c (unchanged.1.each c since)

  followed_whole : (f : Image) (t : Table) → Images before f → ShowsTable f t → FollowsFrom before now f (t ∷ []) 0 → ShowOneOfSince before now
  followed_whole f t start shown follows = λ c since. elim (through follows.synced (t ∷ []) 0 follows.until follows.trail c since) [
    | inl one ↦ one
    | inr there ↦ record { table = t; shows = only c t there.0 there.1; image = f; left = start; same = shown }
  ]

  failed_whole : (f : Image) → Exposes before f → LeavesContent before → LeavesOpening before now f → ShowOneOfSince before now
  failed_whole f exposed leaves (inl unchanged) = unchanged_whole unchanged
  failed_whole f exposed leaves (inr gate) =
      let start : Images before f = at_told before.content (Images before) f exposed leaves in
      let shown = each f start in
      followed_whole f shown.0 start shown.1 (gate.follows shown.0 shown.1)

-- a run whose opening gave up, by how it ended
module _ (before now : World) (f : Image) (exposed : Exposes before.disk f) (leaves : LeavesContent before.disk) (each : EachShows before.disk) where
  pub gave_whole : (how : Ended) → GaveUp how before now → ShowOneOfSince before.disk now.disk
  gave_whole ended.Device gave = failed_whole before.disk now.disk each f exposed leaves (gave.failed refl f exposed)
  gave_whole ended.NotAStore gave = unchanged_whole before.disk now.disk each (gave.kept (λ e. let x : ended.NotAStore ≡ ended.Device = e in cc))
  gave_whole (ended.Damaged block) gave = unchanged_whole before.disk now.disk each (gave.kept (λ e. let x : ended.Damaged block ≡ ended.Device = e in cc))
  gave_whole ended.NoMemory gave = unchanged_whole before.disk now.disk each (gave.kept (λ e. let x : ended.NoMemory ≡ ended.Device = e in cc))
  gave_whole ended.Done gave = absurd gave.ends
  gave_whole ended.Usage gave = absurd gave.ends
  gave_whole ended.FrameTooLong gave = absurd gave.ends
  gave_whole ended.Truncated gave = absurd gave.ends
  gave_whole ended.Source gave = absurd gave.ends
  gave_whole ended.Sink gave = absurd gave.ends
  gave_whole ended.Budget gave = absurd gave.ends
  gave_whole ended.Unsound gave = absurd gave.ends
  gave_whole ended.UnknownVersion gave = absurd gave.ends
