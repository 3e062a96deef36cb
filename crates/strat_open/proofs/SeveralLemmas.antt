-- An opening of a disk whose images show several tables.
use Rattle.std.proofs.Common.{inl, inr, ℕ, zero, suc, [], ◌∷◌, arith}
use Rattle.std.proofs.lemmas.Bool.{cases_lt}
use Rattle.def_crash.specs.Image.{Image}
use Rattle.def_crash.specs.Moments.{DiskView, Exposes, Images, KeepsImages}
use Rattle.def_crash.specs.Trail.{At}
use Rattle.def_crash.proofs.MomentLemmas.{at_told}
use Rattle.strat_model.specs.Table.{Table}
use Rattle.def_publish.specs.Several.{EachShows, ShowOneOfSince, ShowsOneOf}
use Rattle.def_publish.specs.Standing.{LeavesContent, ShowsTable}
use Rattle.strat_open.specs.Following.{FollowsFrom}

only : (c : Image) (t : Table) (i : ℕ) → At (t ∷ []) i (ShowsTable c) → ShowsTable c t
only c t zero here = here
only c t (suc i) here = absurd here

-- what was followed by one table leaves that
pub left_one : (before now : DiskView) (f c : Image) (t : Table) → FollowsFrom before now f (t ∷ []) 0 → Images now c → ShowsTable c t
left_one before now f c t follows left = let one = follows.left c left in only c t one.0 one.2

module _ (before now : DiskView) (each : EachShows before) where
  -- an image of before shows its own table
  was : (c : Image) → Images before c → ShowsOneOf before c
  was c left = record { table = (each c left).0; shows = (each c left).1; image = c; left = left; same = (each c left).1 }

  pub kept_whole : KeepsImages before now → ShowOneOfSince before now
  kept_whole kept = λ c since. was c (kept.each c since)

  -- and those from a sync on show the table of the content, which was one of the images
  pub followed_whole : (f : Image) → Exposes before f → LeavesContent before → ((t : Table) → ShowsTable f t → FollowsFrom before now f (t ∷ []) 0) → ShowOneOfSince before now
  followed_whole f exposed leaves opened = λ c since.
      let start : Images before f = at_told before.content (Images before) f exposed leaves in
      let shown = each f start in
      let follows = opened shown.0 shown.1 in
      elim (cases_lt since.at follows.synced) [
        | inl early ↦ was c (follows.until since.at c since.from (omega (arith, early)) since.left)
        | inr late ↦
            let one = follows.trail.each 0 since.at c (omega arith) (omega (arith, late, follows.trail.first)) since.till since.left in
            record { table = shown.0; shows = only c shown.0 one.0 one.2; image = f; left = start; same = shown.1 }
      ]
