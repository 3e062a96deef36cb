-- What a store pays for its arrays, while its disk is read and its journal grows.
use Rattle.std.proofs.Common.{◌≡◌, ◌≤◌, ◌*◌, ℕ, zero, suc, List, [], ◌∷◌, Some, sym, ◌∙◌, subst, arith}
use Rattle.strat_base.specs.Change.{Change}
use Rattle.def_crash.proofs.MomentLemmas.{each_then}
use Rattle.def_crash.specs.Image.{Image}
use Rattle.def_crash.specs.Moments.{DiskView, Passes, OnlyReads}
use Rattle.def_crash.specs.Trail.{At, Trail}
use Rattle.strat_model.specs.Table.{Table}
use Rattle.def_publish.proofs.PartsLemmas.{reads_state}
use Rattle.def_publish.specs.Appending.{with_batch}
use Rattle.def_publish.specs.Contents.{Contents, contents_state}
use Rattle.def_publish.specs.Standing.{ReadsAs, ShowsTable, ContentsStand}
use Rattle.def_state.proofs.SpaceLemmas.{stored_twice}
use Rattle.def_state.specs.State.{State, IsPaid, stored, updates_of}
use Rattle.strat_memory.specs.Paying.{IsPaidIn, ArePaidSince, StoreTwoSince}

-- an image of contents whose state is paid for
pub paid_as : (c : Image) (x : Contents) → ReadsAs c x → IsPaid (contents_state x) → IsPaidIn c
paid_as c x r paid s reads =
    let e : Some (contents_state x) ≡ Some s = sym (reads_state c x r) ∙ reads in
    let same : contents_state x ≡ s = cc in
    subst IsPaid same paid

-- changes that join a journal cost nothing
pub paid_appended : (x : Contents) (cs : List Change) → IsPaid (contents_state x) → IsPaid (contents_state (with_batch x cs))
paid_appended x cs paid = record { shallow = paid.shallow; bounded = paid.bounded }

-- a call and then another
pub paid_then : (mid new : DiskView) (start : ℕ) → Passes mid new → ArePaidSince mid start → ArePaidSince new mid.moment → ArePaidSince new start
paid_then mid new start passes first second = each_then mid new start IsPaidIn passes first second

-- the contents that stand on a disk whose images are paid for
pub paid_now : (v : DiskView) (start : ℕ) (x : Contents) → ContentsStand v x → start ≤ v.moment → ArePaidSince v start → IsPaid (contents_state x)
paid_now v start x stands later all =
    all stands.content (record { at = v.moment; from = later; till = omega arith; left = stands.left }) (contents_state x) (reads_state stands.content x (stands.reads stands.content stands.left))

-- while a disk is only read
pub paid_reads : (v w : DiskView) (x : Contents) → ContentsStand v x → OnlyReads v w → IsPaid (contents_state x) → ArePaidSince w v.moment
paid_reads v w x stands reads paid c since = paid_as c x (stands.reads c (reads.images.each c since)) paid

-- a table that an image shows at some place of a list
some_at : (tables : List Table) (i : ℕ) (c : Image) → At tables i (ShowsTable c) → (t : Table) × ShowsTable c t
some_at [] i c at = absurd at
some_at (t ∷ tables) zero c at = (t, at)
some_at (t ∷ tables) (suc i) c at = some_at tables i c at

-- on a trail each image stores at most two entries for each update
pub stored_since : (v : DiskView) (start : ℕ) (tables : List Table) (n : ℕ) → Trail ShowsTable v start tables n → StoreTwoSince v start
stored_since v start tables n trail c since s reads =
    let from : start ≤ since.at = since.from in
    let low : trail.mark 0 ≤ since.at = omega (arith, trail.first, from) in
    let place = trail.each 0 since.at c (omega arith) low since.till since.left in
    let shows = some_at tables place.0 c place.2 in
    let e : Some shows.1.state ≡ Some s = sym shows.1.reads ∙ reads in
    let same : shows.1.state ≡ s = cc in
    subst (λ (q : State). stored q ≤ 2 * updates_of q) same (stored_twice shows.1.state shows.1.sound)
