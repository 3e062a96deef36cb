-- Blocks that writers take, counted.
use Rattle.std.proofs.Common.{◌≡◌, ℕ, zero, suc, ◌+◌, ◌<◌, ◌==◌, ◌||◌, cond, eqb, Bool, true, false, inl, inr, List, [], ◌∷◌, ◌++◌, refl, sym, ap, ◌∙◌, subst, arith, true≢false}
use Rattle.std.specs.List.{Contains, count_by}
use Rattle.std.proofs.lemmas.Bool.{eq-eqb, eqb-true, false_from_ne_true}
use Rattle.std.proofs.lemmas.List.{append-nil}
use Rattle.std.proofs.lemmas.List.Elements.{Contains-append_cases}
use Rattle.std.proofs.lemmas.List.Sums.{sum_by-append, sum_by-cons}
use Rattle.strat_base.specs.declared.descriptors.Extent.{Extent}
use Rattle.def_crash.specs.Blocks.{AgreeOn, KeepsTaken}
use Rattle.def_crash.specs.Image.{Image}
use Rattle.strat_extent.specs.Blocks.{SpaceView, times_in, is_used, is_free}
use Rattle.strat_extent.specs.Change.{SameBlocks, CanGive}
use Rattle.strat_extent.proofs.BlockLemmas.{times_listed}
use Rattle.strat_extent.proofs.CountLemmas.{times_append}
use Rattle.strat_extent.proofs.ChangeLemmas.{free_bounds, used_not_free, used_uses, uses_used, is_free_of}
use Rattle.def_bytes.specs.Arrays.{blocks_of}
use Rattle.strat_array.specs.Taking.{AreUsed, IsLowestTaken, TakesBlock}

only_one : (b q : ℕ) → Contains (b ∷ []) q → b ≡ q
only_one b q (zero, lt, e) = e
only_one b q (suc k, lt, e) = absurd (omega arith)

-- blocks behind others stand there as often as in both
pub times_behind : (old new : List Extent) (taken : List ℕ) (q : ℕ) → blocks_of new ≡ blocks_of old ++ taken → times_in new q ≡ times_in old q + count_by (λ a. a == q) taken
times_behind old new taken q is =
    times_listed new q ∙ ap (count_by (λ a. a == q)) is ∙ sum_by-append (λ (a : ℕ). cond (a == q) 1 0) (blocks_of old) taken
    ∙ ap (λ (n : ℕ). n + count_by (λ a. a == q) taken) (sym (times_listed old q))

-- a block that is listed is counted
pub counted_there : (blocks : List ℕ) (q : ℕ) → Contains blocks q → 0 < count_by (λ a. a == q) blocks
counted_there [] q (k, lt, e) = absurd (omega arith)
counted_there (b ∷ blocks) q (zero, lt, e) = omega (arith, sum_by-cons (λ (a : ℕ). cond (a == q) 1 0) b blocks, ap {B = ℕ} (λ (t : Bool). cond t 1 0) (eq-eqb b q e))
counted_there (b ∷ blocks) q (suc k, lt, e) = omega (arith, sum_by-cons (λ (a : ℕ). cond (a == q) 1 0) b blocks, counted_there blocks q (k, omega arith, e))

bits_added : (p q : Bool) → (q ≡ true → p ≡ false) → cond (p || q) 1 0 ≡ cond p 1 0 + cond q 1 0
bits_added p false apart = or_none p
  where
    or_none : (b : Bool) → cond (b || false) 1 0 ≡ cond b 1 0 + 0
    or_none true = refl
    or_none false = refl
bits_added true true apart = absurd (true≢false (apart refl))
bits_added false true apart = refl

-- no block was taken
pub takes_nothing : (s t : SpaceView) (old new : List Extent) → SameBlocks s t → new ≡ old → TakesBlock s t old new
takes_nothing s t old new same is = record {
  taken = [];
  few = omega arith;
  blocks = ap blocks_of is ∙ sym (append-nil (blocks_of old));
  free = λ b none. absurd (let lt = none.1 in omega arith);
  used = λ b. (λ i. cond (same.used b i) 1 0 + times_in (sym is i) b);
  first = same.first;
  count = same.count ∙ omega arith;
}

-- the lowest free block was taken
pub takes_one : (s t : SpaceView) (old new : List Extent) (b : ℕ) → IsLowestTaken s b t → blocks_of new ≡ blocks_of old ++ b ∷ [] → TakesBlock s t old new
takes_one s t old new b one is = record {
  taken = b ∷ [];
  few = omega arith;
  blocks = is;
  free = λ q there. subst (λ (p : ℕ). is_free s p ≡ true) (only_one b q there) one.free;
  used = λ q. omega (
    arith,
    ap {B = ℕ} (λ (u : Bool). cond u 1 0) (one.used q),
    bits_added (is_used s q) (eqb b q) (λ same. subst (λ (p : ℕ). is_used s p ≡ false) (eqb-true b q same) (free_bounds s b one.free).2),
    times_behind old new (b ∷ []) q is,
    sum_by-cons (λ (a : ℕ). cond (a == q) 1 0) b [],
  );
  first = one.first;
  count = one.count ∙ omega arith;
}

module _ (s t : SpaceView) (old new : List Extent) (takes : TakesBlock s t old new) where
  grows : (q : ℕ) → times_in new q ≡ times_in old q + count_by (λ a. a == q) takes.taken
  grows q = times_behind old new takes.taken q takes.blocks

  -- a used block stays used
  pub used_stay : (q : ℕ) → is_used s q ≡ true → is_used t q ≡ true
  used_stay q used = uses_used t q (omega (arith, used_uses s q used, takes.used q, grows q))

  pub used_once_taken : AreUsed s (blocks_of old) → AreUsed t (blocks_of new)
  used_once_taken used = λ q there.
      elim (Contains-append_cases (blocks_of old) takes.taken q (subst (λ (l : List ℕ). Contains l q) takes.blocks there)) [
        | inl first ↦ used_stay q (used q first)
        | inr second ↦ uses_used t q (omega (arith, takes.used q, grows q, counted_there takes.taken q second))
      ]

  -- a block that may not be taken stays so
  pub taken_stay : (q : ℕ) → is_free s q ≡ false → is_free t q ≡ false
  taken_stay q taken =
      false_from_ne_true (is_free t q)
      (λ free.
      let now = free_bounds t q free in
      let before : is_used s q ≡ false = false_from_ne_true (is_used s q) (λ used. true≢false (sym (used_stay q used) ∙ now.2)) in
      true≢false (sym (is_free_of s q (let first = takes.first in let from = now.0 in omega arith) now.1 before) ∙ taken))

  pub all_given : (front back : List Extent) → CanGive s (front ++ old ++ back) → CanGive t (front ++ new ++ back)
  all_given front back held = λ q.
      omega (arith, takes.used q, held q, times_append (front ++ old) back q, times_append front old q, times_append (front ++ new) back q, times_append front new q)

pub own_given : (s : SpaceView) (front own back : List Extent) → CanGive s (front ++ own ++ back) → CanGive s own
own_given s front own back held = λ q. omega (arith, held q, times_append (front ++ own) back q, times_append front own q)

pub none_given : (s : SpaceView) → CanGive s []
none_given s = λ q. omega arith

pub given_used : (s : SpaceView) (xs : List Extent) → CanGive s xs → AreUsed s (blocks_of xs)
given_used s xs held = λ q there. uses_used s q (omega (arith, held q, times_listed xs q, counted_there (blocks_of xs) q there))

-- what changes free blocks alone leaves those that are used as they are
pub used_agree : (s : SpaceView) (blocks : List ℕ) (f g : Image) → AreUsed s blocks → KeepsTaken (is_free s) f g → AgreeOn blocks f g
used_agree s blocks f g used keeps = λ b there. keeps b (used_not_free s b (used b there))
