-- Writers that are sealed one after the other.
use Rattle.std.proofs.Common.{◌≡◌, ◌≢◌, ◌≤◌, ◌<◌, ◌+◌, [], ◌∷◌, ℕ, zero, suc, inl, inr, List, length, set, Some, refl, sym, ap, ◌∙◌, subst, arith}
use Rattle.std.specs.List.{slice_get}
use Rattle.std.proofs.lemmas.Bool.{cases_eq}
use Rattle.std.proofs.lemmas.List.{length-set}
use Rattle.std.proofs.lemmas.Option.{slice_get_within}
use Rattle.strat_array.specs.Progress.{ArrayProgress}
use Rattle.strat_array.specs.Pushed.{IsPushed}
use Rattle.strat_array.specs.Taking.{AreUsed}
use Rattle.strat_array.proofs.EntriesOnLemmas.{entries_on-kept}
use Rattle.strat_array.proofs.TakesLemmas.{used_agree}
use Rattle.strat_base.specs.Entries.{Entry}
use Rattle.def_crash.specs.Image.{Image}
use Rattle.def_crash.specs.Moments.{DiskView, Exposes}
use Rattle.def_crash.specs.Blocks.{TearsBlocks}
use Rattle.strat_extent.specs.Blocks.{SpaceView, is_free}
use Rattle.def_bytes.specs.Arrays.{blocks_of, entries_on}
use Rattle.strat_promote.specs.Spaces.{TakesMore}
use Rattle.strat_promote.specs.Closing.{all_extents, AreAllUsed, AreSealed}
use Rattle.strat_promote.proofs.SpacesLemmas.{takes_trans, takes_all, used_all, torn_on, others_stay}
use Rattle.strat_promote.proofs.PushingLemmas.{still_told}

get_set_same : {X : Type 0} (xs : List X) (q : ℕ) (x w : X) → slice_get xs q ≡ Some w → slice_get (set xs q x) q ≡ Some x
get_set_same [] q x w e = absurd (cc)
get_set_same (y ∷ xs) zero x w e = refl
get_set_same (y ∷ xs) (suc q) x w e = get_set_same xs q x w e

get_set_other : {X : Type 0} (xs : List X) (q r : ℕ) (x : X) → r ≢ q → slice_get (set xs q x) r ≡ slice_get xs r
get_set_other [] q r x ne = refl
get_set_other (y ∷ xs) zero zero x ne = absurd (ne refl)
get_set_other (y ∷ xs) zero (suc r) x ne = refl
get_set_other (y ∷ xs) (suc q) zero x ne = refl
get_set_other (y ∷ xs) (suc q) (suc r) x ne = get_set_other xs q r x (λ e. ne (ap suc e))

-- how far the space has come, after some writers were sealed
pub record AreTaking (disk now : DiskView) (before after : SpaceView) (old new : List ArrayProgress) : Type 0 where
  pub len : length new ≡ length old
  pub used : AreAllUsed after new
  pub takes : TakesMore before after (all_extents old) (all_extents new)
  pub torn : TearsBlocks (is_free before) disk now

pub taking_next : (v m n : DiskView) (s t u : SpaceView) (old mid : List ArrayProgress) (q : ℕ) (w x : ArrayProgress) → AreTaking v m s t old mid
    → slice_get mid q ≡ Some w → TakesMore t u w.extents x.extents → TearsBlocks (is_free t) m n → AreTaking v n s u old (set mid q x)
taking_next v m n s t u old mid q w x so_far at takes torn = record {
  len = length-set mid q x ∙ so_far.len;
  used = used_all t u mid q w x so_far.used takes at;
  takes = takes_trans s t u (all_extents old) (all_extents mid) (all_extents (set mid q x)) so_far.takes (takes_all t u mid q w x takes at);
  torn = torn_on s t (all_extents old) (all_extents mid) v m n so_far.takes so_far.torn torn;
}

-- a writer is sealed in its place
abbrev pub IsSealedAt : DiskView → DiskView → List ArrayProgress → ℕ → ArrayProgress → Type 0
IsSealedAt disk now new q w = (x : ArrayProgress) × (slice_get new q ≡ Some x) × (x.id ≡ w.id) × (x.count ≡ w.count)
    × ((f g : Image) (es : List Entry) → Exposes disk f → Exposes now g → IsPushed f w es → entries_on g (blocks_of x.extents) ≡ Some es)
    × (x.filter ≡ w.filter)

-- the writers below a number are sealed, and the others are as they were
pub record AreSealing (disk now : DiskView) (before after : SpaceView) (i : ℕ) (old new : List ArrayProgress) : Type 0 where
  pub taking : AreTaking disk now before after old new
  pub sealed : (q : ℕ) (w : ArrayProgress) → q < i → slice_get old q ≡ Some w → IsSealedAt disk now new q w
  pub left : (q : ℕ) → i ≤ q → slice_get new q ≡ slice_get old q

pub sealing_next : (v m n : DiskView) (s t u : SpaceView) (old mid : List ArrayProgress) (i : ℕ) (w x : ArrayProgress) → AreAllUsed s old → AreSealing v m s t i old mid
    → slice_get mid i ≡ Some w → TakesMore t u w.extents x.extents → TearsBlocks (is_free t) m n → x.id ≡ w.id → x.count ≡ w.count → x.filter ≡ w.filter
    → ((f g : Image) (es : List Entry) → Exposes m f → Exposes n g → IsPushed f w es → entries_on g (blocks_of x.extents) ≡ Some es)
    → AreSealing v n s u (i + 1) old (set mid i x)
sealing_next v m n s t u old mid i w x used so_far at takes torn id count filter sealed = record {
  taking = taking_next v m n s t u old mid i w x so_far.taking at takes torn;
  sealed = λ q y lt there. elim (cases_eq q i) [ inl same ↦ here q y same there | inr other ↦ before q y (omega arith) other there ];
  left = λ q le. get_set_other mid i q x (omega arith) ∙ so_far.left q (omega arith);
}
  where
    here : (q : ℕ) (y : ArrayProgress) → q ≡ i → slice_get old q ≡ Some y → IsSealedAt v n (set mid i x) q y
    here q y same there =
        let is : Some w ≡ Some y = sym at ∙ so_far.left i (omega arith) ∙ ap (slice_get old) (sym same) ∙ there in
        let e : w ≡ y = cc in
        subst (λ (p : ArrayProgress). IsSealedAt v n (set mid i x) q p) e (
          x,
          ap (slice_get (set mid i x)) same ∙ get_set_same mid i x w at,
          id,
          count,
          λ f g es told now pushed.
              let middle = still_told v m f so_far.taking.torn.time told in
              let own : AreUsed s (blocks_of w.extents) = used q w (there ∙ ap Some (sym e)) in
              sealed middle.0 g es middle.1 now (others_stay s v m f middle.0 w es own so_far.taking.torn told middle.1 pushed),
          filter,
        )

    before : (q : ℕ) (y : ArrayProgress) → q < i → q ≢ i → slice_get old q ≡ Some y → IsSealedAt v n (set mid i x) q y
    before q y lt other there =
        let was = so_far.sealed q y lt there in (
          was.0,
          get_set_other mid i q x other ∙ was.1,
          was.2,
          was.3,
          λ f g es told now pushed.
              let middle = still_told v m f so_far.taking.torn.time told in
              let agree = used_agree t (blocks_of was.0.extents) middle.0 g (so_far.taking.used q was.0 was.1) (torn.content middle.0 g middle.1 now) in
              entries_on-kept middle.0 g (blocks_of was.0.extents) agree ∙ was.4 f middle.0 es told middle.1 pushed,
          was.5,
        )

pub all_sealed : (v n : DiskView) (s u : SpaceView) (i : ℕ) (old new : List ArrayProgress) → AreSealing v n s u i old new → length old ≤ i → AreSealed v n old new
all_sealed v n s u i old new so_far all = record { each = λ q w at. so_far.sealed q w (let lt = slice_get_within old q w at in omega arith) at }
