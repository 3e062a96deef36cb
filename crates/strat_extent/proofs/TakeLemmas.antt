-- Runs taken one after another, each the lowest that is free.
use Rattle.std.proofs.Common.{◌≡◌, inl, inr, ℕ, ◌+◌, ◌-◌, ◌<◌, ◌≤◌, ◌^◌, Bool, true, false, List, [], ◌∷◌, ◌++◌, ◌∙◌, arith}
use Rattle.std.proofs.lemmas.Bool.{cases_lt}
use Rattle.strat_base.specs.declared.descriptors.Extent.{Extent}
use Rattle.strat_extent.specs.Blocks.{SpaceView, times_in, total_len, AreRuns, is_used}
use Rattle.strat_extent.specs.Change.{IsMarked, SameBlocks, CanMark, AreLowest}
use Rattle.strat_extent.proofs.CountLemmas.{inside_in, inside_bounds, times_append, total_append}
use Rattle.strat_extent.proofs.ChangeLemmas.{free_bounds, uses_used, used_uses}

-- runs, and one more above them
runs_push : (low top : ℕ) (xs : List Extent) (q : Extent) → low ≤ q.start → 0 < q.len → q.start + q.len < top → AreRuns low xs q.start
    → AreRuns low (xs ++ q ∷ []) top
runs_push low top [] q le p t a = (le, p, t, tt)
runs_push low top (x ∷ xs) q le p t a =
    (a.0, a.1, omega (arith, a.2), runs_push (x.start + x.len + 1) top xs q (omega (arith, a.2)) p t a.3)

pub marked_push : (s t u : SpaceView) (xs : List Extent) (q : Extent) → IsMarked s xs t → IsMarked t (q ∷ []) u → IsMarked s (xs ++ q ∷ []) u
marked_push s t u xs q m n = record {
  first = n.first ∙ m.first;
  used = λ b. omega (arith, m.used b, n.used b, times_append xs (q ∷ []) b);
  count = omega (arith, m.count, n.count, total_append xs (q ∷ []));
}

pub marked_same : (s t u : SpaceView) (xs : List Extent) → IsMarked s xs t → SameBlocks t u → IsMarked s xs u
marked_same s t u xs m same = record {
  first = same.first ∙ m.first;
  used = λ b. rw (same.used b) (m.used b);
  count = same.count ∙ m.count;
}

-- what is used stays so
used_grows : (t u : SpaceView) (xs : List Extent) (b : ℕ) → IsMarked t xs u → is_used t b ≡ true → is_used u b ≡ true
used_grows t u xs b m e = uses_used u b (omega (arith, m.used b, used_uses t b e))

used_new : (t u : SpaceView) (q : Extent) (b : ℕ) → IsMarked t (q ∷ []) u → q.start ≤ b → b < q.start + q.len → is_used u b ≡ true
used_new t u q b m le lt = uses_used u b (omega (arith, m.used b, inside_in q.start (q.start + q.len) b le lt))

-- what was taken so far of n blocks, with so many left to take
pub record TakenSoFar (s : SpaceView) (n : ℕ) (taken : List Extent) (left : ℕ) (t : SpaceView) : Type 0 where
  pub marked : IsMarked s taken t
  pub total : total_len taken + left ≡ n
  pub lowest : AreLowest taken t
  pub runs : AreRuns s.first taken (2 ^ 32)
  pub next : 0 < left → (r : ℕ) → s.first ≤ r → is_used t r ≡ false → AreRuns s.first taken r

clash : (p : Bool) → p ≡ true → p ≡ false → ⊥
clash p e f = cc

-- no block up to the end of a run is unused
taken_touches : (t u : SpaceView) (q : Extent) (r : ℕ) → t.first ≤ r → ((b : ℕ) → t.first ≤ b → b < q.start + q.len → is_used u b ≡ true)
    → is_used u (q.start + q.len) ≡ true → r ≤ q.start + q.len → is_used u r ≡ false → ⊥
taken_touches t u q r ge each end le e =
    elim (cases_lt r (q.start + q.len)) [
      | inl lt ↦ clash (is_used u r) (each r ge lt) e
      | inr at ↦
          let same : r ≡ q.start + q.len = omega arith in
          clash (is_used u r) (rw same end) e
    ]

-- one more run taken
pub taken_more : (s : SpaceView) (n : ℕ) (taken : List Extent) (left : ℕ) (t u : SpaceView) (q : Extent) → TakenSoFar s n taken left t
    → 1 ≤ q.len → q.len ≤ left → CanMark t (q ∷ []) → ((b : ℕ) → t.first ≤ b → b < q.start → is_used t b ≡ true)
    → (q.len < left → is_used t (q.start + q.len) ≡ true) → IsMarked t (q ∷ []) u
    → TakenSoFar s n (taken ++ q ∷ []) (left - q.len) u
taken_more s n taken left t u q so p le can below after m =
    let start : (t.first ≤ q.start) × (q.start < 4294967295) × (is_used t q.start ≡ false)
    = free_bounds t q.start (can.free q.start (omega (arith, inside_in q.start (q.start + q.len) q.start (omega arith) (omega arith)))) in
    let last : (t.first ≤ q.start + q.len - 1) × (q.start + q.len - 1 < 4294967295) × (is_used t (q.start + q.len - 1) ≡ false)
    = free_bounds t (q.start + q.len - 1) (can.free (q.start + q.len - 1)
    (omega (arith, inside_in q.start (q.start + q.len) (q.start + q.len - 1) (omega arith) (omega arith)))) in
    let under : AreRuns s.first taken q.start = so.next (omega arith) q.start (omega (arith, start.0, so.marked.first)) start.2 in
    let low : s.first ≤ q.start = omega (arith, start.0, so.marked.first) in
    let each : (b : ℕ) → t.first ≤ b → b < q.start + q.len → is_used u b ≡ true
    = λ b ge lt. elim (cases_lt b q.start) [
      | inl under2 ↦ used_grows t u (q ∷ []) b m (below b ge under2)
      | inr over ↦ used_new t u q b m over lt
    ] in
    record {
      marked = marked_push s t u taken q so.marked m;
      total = omega (arith, so.total, total_append taken (q ∷ []));
      lowest = λ a b here ge lt. elim (cases_lt 0 (times_in taken a)) [
        | inl old ↦ used_grows t u (q ∷ []) b m (so.lowest a b old (omega (arith, ge, m.first)) lt)
        | inr none ↦ each b (omega (arith, ge, m.first))
            (omega (arith, lt, (inside_bounds q.start (q.start + q.len) a (omega (arith, here, none, times_append taken (q ∷ []) a))).1))
      ];
      runs = runs_push s.first 4294967296 taken q low (omega arith) (omega (arith, last.1)) under;
      next = λ more r ge e. runs_push s.first r taken q low (omega arith)
          (elim (cases_lt (q.start + q.len) r) [
            | inl over ↦ over
            | inr at ↦ absurd (taken_touches t u q r (omega (arith, ge, so.marked.first)) each (used_grows t u (q ∷ []) (q.start + q.len) m (after (omega (arith, more)))) at e)
          ]) under;
    }
