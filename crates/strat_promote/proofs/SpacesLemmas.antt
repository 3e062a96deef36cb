-- Blocks that the writers of a promotion take.
use Rattle.std.proofs.Common.{◌≡◌, ℕ, zero, suc, ◌+◌, ◌<◌, ◌==◌, cond, Bool, true, false, inl, inr, ◌⊎◌, List, [], ◌∷◌, ◌++◌, length, length-append, set, Some, refl, sym, ap, ◌∙◌, subst, arith, true≢false}
use Rattle.std.specs.List.{slice_get, Contains, count_by, range_with_len}
use Rattle.std.proofs.lemmas.Bool.{eqb-true, false_from_ne_true}
use Rattle.std.proofs.lemmas.Grind.{flat_map-append}
use Rattle.std.proofs.lemmas.List.Sums.{sum_by-cons}
use Rattle.strat_base.specs.Entries.{Entry}
use Rattle.strat_base.specs.declared.descriptors.Extent.{Extent}
use Rattle.def_crash.specs.Blocks.{TearsBlocks}
use Rattle.def_crash.specs.Image.{Image}
use Rattle.def_crash.specs.Moments.{DiskView, Exposes}
use Rattle.def_crash.proofs.BlockLemmas.{blocks_trans, blocks_wider}
use Rattle.strat_extent.specs.Blocks.{SpaceView, times_in, is_used, is_free, uses}
use Rattle.strat_extent.proofs.BlockLemmas.{times_listed}
use Rattle.strat_extent.proofs.ChangeLemmas.{uses_used}
use Rattle.strat_extent.proofs.CountLemmas.{times_append}
use Rattle.def_bytes.specs.Arrays.{blocks_of}
use Rattle.strat_array.specs.Progress.{ArrayProgress}
use Rattle.strat_array.specs.Pushed.{IsPushed}
use Rattle.strat_array.specs.Taking.{AreUsed, TakesBlock}
use Rattle.strat_array.proofs.StayLemmas.{pushed_stay}
use Rattle.strat_array.proofs.TakesLemmas.{counted_there, used_stay, taken_stay, used_agree}
use Rattle.strat_promote.specs.Closing.{all_extents, AreAllUsed}
use Rattle.strat_promote.specs.Spaces.{TakesMore}

-- a block that is counted is listed
listed_there : (blocks : List ℕ) (b : ℕ) → 0 < count_by (λ a. a == b) blocks → Contains blocks b
listed_there [] b some = absurd (omega arith)
listed_there (a ∷ blocks) b some = go (λ left. listed_there blocks b left) (a == b) refl
  where
    go : (0 < count_by (λ q. q == b) blocks → Contains blocks b) → (t : Bool) → (a == b) ≡ t → Contains (a ∷ blocks) b
    go more true e = (zero, omega arith, eqb-true a b e)
    go more false e =
        let rest = more (omega (arith, some, sum_by-cons (λ (q : ℕ). cond (q == b) 1 0) a blocks, ap {B = ℕ} (λ (t : Bool). cond t 1 0) e)) in
        (suc rest.0, (let lt = rest.1 in omega arith), rest.2)

-- a block of the extents after is one of those before, or is used
mine_from : (s t : SpaceView) (old new : List Extent) → ((b : ℕ) → uses t b + times_in old b ≡ uses s b + times_in new b) → (b : ℕ) → Contains (blocks_of new) b
    → Contains (blocks_of old) b ⊎ (is_used t b ≡ true)
mine_from s t old new used b there = go (times_in old b) refl
  where
    go : (n : ℕ) → times_in old b ≡ n → Contains (blocks_of old) b ⊎ (is_used t b ≡ true)
    go zero e = inr (uses_used t b (omega (arith, used b, e, times_listed new b, counted_there (blocks_of new) b there)))
    go (suc n) e = inl (listed_there (blocks_of old) b (omega (arith, e, times_listed old b)))

-- a writer that takes a block takes more
pub takes_more : (s t : SpaceView) (old new : List Extent) → TakesBlock s t old new → TakesMore s t old new
takes_more s t old new takes = record {
  used = takes.used;
  kept = used_stay s t old new takes;
  free = λ b is. from_free b (is_free s b) refl is;
  mine = mine_from s t old new takes.used;
  first = takes.first;
  count = omega (arith, takes.count, ap (λ (bs : List ℕ). length bs) takes.blocks, length-append (blocks_of old) takes.taken);
}
  where
    from_free : (b : ℕ) (p : Bool) → is_free s b ≡ p → is_free t b ≡ true → is_free s b ≡ true
    from_free b true e is = e
    from_free b false e is = absurd (true≢false (sym is ∙ taken_stay s t old new takes b e))

pub takes_refl : (s : SpaceView) (xs : List Extent) → TakesMore s s xs xs
takes_refl s xs = record { used = λ b. refl; kept = λ b is. is; free = λ b is. is; mine = λ b there. inl there; first = refl; count = refl }

pub takes_trans : (s t u : SpaceView) (old mid new : List Extent) → TakesMore s t old mid → TakesMore t u mid new → TakesMore s u old new
takes_trans s t u old mid new one two =
    let used' : (b : ℕ) → uses u b + times_in old b ≡ uses s b + times_in new b = λ b. omega (arith, one.used b, two.used b) in
    record {
      used = used';
      kept = λ b is. two.kept b (one.kept b is);
      free = λ b is. one.free b (two.free b is);
      mine = mine_from s u old new used';
      first = two.first ∙ one.first;
      count = omega (arith, one.count, two.count);
    }

-- the blocks of extents that took more are used where those before were
pub used_more : (s t : SpaceView) (old new : List Extent) → TakesMore s t old new → AreUsed s (blocks_of old) → AreUsed t (blocks_of new)
used_more s t old new takes used = λ b there.
    elim (takes.mine b there) [ inl before ↦ takes.kept b (used b before) | inr now ↦ now ]

-- what changes blocks that are free after more were taken changes blocks that were free before
pub torn_on : (s t : SpaceView) (old new : List Extent) (before mid now : DiskView) → TakesMore s t old new → TearsBlocks (is_free s) before mid → TearsBlocks (is_free t) mid now
    → TearsBlocks (is_free s) before now
torn_on s t old new before mid now takes first second =
    blocks_trans (is_free s) before mid now first (blocks_wider (is_free t) (is_free s) mid now (λ b no. false_from_ne_true (is_free t b) (λ is. true≢false (sym (takes.free b is) ∙ no))) second)

-- One of some writers takes more.

times_set : (old : List ArrayProgress) (part : ℕ) (was is : ArrayProgress) (b : ℕ) → slice_get old part ≡ Some was
    → times_in (all_extents (set old part is)) b + times_in was.extents b ≡ times_in (all_extents old) b + times_in is.extents b
times_set [] part was is b there = absurd (cc)
times_set (w ∷ old) zero was is b there =
    let same : w ≡ was = cc in
    omega (arith, ap (λ (x : ArrayProgress). times_in x.extents b) same, times_append is.extents (all_extents old) b, times_append w.extents (all_extents old) b)
times_set (w ∷ old) (suc part) was is b there =
    omega (arith, times_set old part was is b there, times_append w.extents (all_extents (set old part is)) b, times_append w.extents (all_extents old) b)

pub blocks_joined : (xs ys : List Extent) → length (blocks_of (xs ++ ys)) ≡ length (blocks_of xs) + length (blocks_of ys)
blocks_joined xs ys =
    omega (arith, ap (λ (bs : List ℕ). length bs) (flat_map-append (λ (x : Extent). range_with_len x.start x.len) xs ys), length-append (blocks_of xs) (blocks_of ys))

blocks_set : (old : List ArrayProgress) (part : ℕ) (was is : ArrayProgress) → slice_get old part ≡ Some was
    → length (blocks_of (all_extents (set old part is))) + length (blocks_of was.extents) ≡ length (blocks_of (all_extents old)) + length (blocks_of is.extents)
blocks_set [] part was is there = absurd (cc)
blocks_set (w ∷ old) zero was is there =
    let same : w ≡ was = cc in
    omega (arith, ap (λ (x : ArrayProgress). length (blocks_of x.extents)) same, blocks_joined is.extents (all_extents old), blocks_joined w.extents (all_extents old))
blocks_set (w ∷ old) (suc part) was is there =
    omega (arith, blocks_set old part was is there, blocks_joined w.extents (all_extents (set old part is)), blocks_joined w.extents (all_extents old))

-- so all of them take more
pub takes_all : (s t : SpaceView) (old : List ArrayProgress) (part : ℕ) (was is : ArrayProgress) → TakesMore s t was.extents is.extents → slice_get old part ≡ Some was
    → TakesMore s t (all_extents old) (all_extents (set old part is))
takes_all s t old part was is takes there =
    let used' : (b : ℕ) → uses t b + times_in (all_extents old) b ≡ uses s b + times_in (all_extents (set old part is)) b
    = λ b. omega (arith, takes.used b, times_set old part was is b there) in
    record { used = used'; kept = takes.kept; free = takes.free; mine = mine_from s t (all_extents old) (all_extents (set old part is)) used'; first = takes.first; count = omega (arith, takes.count, blocks_set old part was is there) }

-- what stands in a list after a change is what was put there, or stood there before
pub set_or_before : {X : Type 0} (xs : List X) (i q : ℕ) (y x : X) → slice_get (set xs i y) q ≡ Some x → (y ≡ x) ⊎ (slice_get xs q ≡ Some x)
set_or_before [] i q y x there = inr there
set_or_before (z ∷ xs) zero zero y x there = inl (cc)
set_or_before (z ∷ xs) zero (suc q) y x there = inr there
set_or_before (z ∷ xs) (suc i) zero y x there = inr there
set_or_before (z ∷ xs) (suc i) (suc q) y x there = set_or_before xs i q y x there

-- and the blocks of each are used
pub used_all : (s t : SpaceView) (old : List ArrayProgress) (part : ℕ) (was is : ArrayProgress) → AreAllUsed s old → TakesMore s t was.extents is.extents → slice_get old part ≡ Some was
    → AreAllUsed t (set old part is)
used_all s t old part was is used takes there = λ q w at.
    elim (set_or_before old part q is w at) [
      | inl same ↦ subst (λ (x : ArrayProgress). AreUsed t (blocks_of x.extents)) same (used_more s t was.extents is.extents takes (used part was there))
      | inr before ↦ λ b listed. takes.kept b (used q w before b listed)
    ]

-- the entries of a writer stay pushed while another takes free blocks
pub others_stay : (s : SpaceView) (disk now : DiskView) (f g : Image) (w : ArrayProgress) (es : List Entry) → AreUsed s (blocks_of w.extents) → TearsBlocks (is_free s) disk now
    → Exposes disk f → Exposes now g → IsPushed f w es → IsPushed g w es
others_stay s disk now f g w es used torn told tells pushed = pushed_stay f g w es (used_agree s (blocks_of w.extents) f g used (torn.content f g told tells)) pushed
