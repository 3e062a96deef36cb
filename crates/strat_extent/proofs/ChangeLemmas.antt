-- What it takes to mark blocks and to give them back, and what that changes.
use Rattle.std.proofs.Common.{◌≡◌, inl, inr, ℕ, zero, suc, ◌+◌, ◌-◌, ◌<◌, ◌≤◌, ◌==◌, Bool, true, false, ◌&&◌, if◌then◌else◌, List, [], ◌∷◌, get_or, take, add-one, length, refl, ap, sym, ◌∙◌, arith}
use Rattle.std.proofs.lemmas.Bool.{cases_lt}
use Rattle.std.proofs.lemmas.Bool.Decides.{nat_tests}
use Rattle.strat_base.specs.declared.descriptors.Extent.{Extent}
use Rattle.strat_extent.specs.Blocks.{SpaceView, inside, times_in, total_len, AreRuns, is_used, is_free, uses}
use Rattle.strat_extent.specs.Change.{IsMarked, SameBlocks, CanMark, CanGive}
use Rattle.strat_extent.specs.Gap.{IsHolePlace, IsGap}
use Rattle.strat_extent.proofs.CountLemmas.{inside_in, inside_below, inside_above, inside_le, inside_bounds}
use Rattle.strat_extent.proofs.RunLemmas.{run_at, times_runs, runs_span, place_gap, none_below}

counted : (p : Bool) (t : ℕ) → t ≤ (if p then 1 else 0) → (if (p && (t == 0)) then 1 else 0) + t ≡ (if p then 1 else 0)
counted false t le = omega arith
counted true zero le = refl
counted true (suc t) le = grind (arith, nat_tests)

-- each block from the first on below the end is used or in a hole
pub uses_counted : (s : SpaceView) (b : ℕ) → AreRuns s.first s.holes s.end → uses s b + times_in s.holes b ≡ inside s.first s.end b
uses_counted s b a = counted _ (times_in s.holes b) (times_runs s.first s.end s.holes b a)

pub is_used_of : (s : SpaceView) (b : ℕ) → s.first ≤ b → b < s.end → times_in s.holes b ≡ 0 → is_used s b ≡ true
is_used_of s b p q e = grind (arith, nat_tests)

pub is_free_of : (s : SpaceView) (b : ℕ) → s.first ≤ b → b < 4294967295 → is_used s b ≡ false → is_free s b ≡ true
is_free_of s b p q e = grind (arith, nat_tests)

pub free_bounds : (s : SpaceView) (b : ℕ) → is_free s b ≡ true → (s.first ≤ b) × (b < 4294967295) × (is_used s b ≡ false)
free_bounds s b e = (grind (arith, nat_tests), grind (arith, nat_tests), grind (arith, nat_tests))

pub uses_used : (s : SpaceView) (b : ℕ) → 0 < uses s b → is_used s b ≡ true
uses_used s b p = grind (arith, nat_tests)

pub uses_unused : (s : SpaceView) (b : ℕ) → uses s b ≡ 0 → is_used s b ≡ false
uses_unused s b p = grind (arith, nat_tests)

pub used_uses : (s : SpaceView) (b : ℕ) → is_used s b ≡ true → uses s b ≡ 1
used_uses s b e = grind (arith, nat_tests)

pub unused_uses : (s : SpaceView) (b : ℕ) → is_used s b ≡ false → uses s b ≡ 0
unused_uses s b e = grind (arith, nat_tests)

-- a change of the end and the holes that makes the blocks of extents used
pub marked : (s t : SpaceView) (xs : List Extent) → t.first ≡ s.first → AreRuns s.first s.holes s.end → AreRuns t.first t.holes t.end
    → s.first ≤ s.end → t.first ≤ t.end
    → ((b : ℕ) → inside t.first t.end b + times_in s.holes b ≡ inside s.first s.end b + times_in t.holes b + times_in xs b)
    → t.end + total_len s.holes ≡ s.end + total_len t.holes + total_len xs
    → IsMarked s xs t
marked s t xs first a c le le2 blocks total = record {
  first = first;
  used = λ b. omega (arith, uses_counted s b a, uses_counted t b c, blocks b);
  count = omega (arith, total, first, runs_span s.first s.end s.holes le a, runs_span t.first t.end t.holes le2 c);
}

times_at : (rs : List Extent) (i : ℕ) (d : Extent) (b : ℕ) → i < length rs
    → inside (get_or rs i d).start ((get_or rs i d).start + (get_or rs i d).len) b ≤ times_in rs b
times_at [] i d b lt = absurd (omega arith)
times_at (r ∷ rs) zero d b lt = omega arith
times_at (r ∷ rs) (suc i) d b lt = omega (arith, times_at rs i d b (omega arith))

-- a run with a block that cannot be marked
pub cannot_mark : (s : SpaceView) (run : Extent) (b : ℕ) → run.start ≤ b → b < run.start + run.len → is_free s b ≡ false → CanMark s (run ∷ []) → ⊥
cannot_mark s run b p q e can =
    let free : is_free s b ≡ true = can.free b (omega (arith, inside_in run.start (run.start + run.len) b p q)) in cc

pub used_not_free : (s : SpaceView) (b : ℕ) → is_used s b ≡ true → is_free s b ≡ false
used_not_free s b e = grind (arith, nat_tests)

pub low_not_free : (s : SpaceView) (b : ℕ) → b < s.first → is_free s b ≡ false
low_not_free s b e = grind (arith, nat_tests)

pub high_not_free : (s : SpaceView) (b : ℕ) → 4294967295 ≤ b → is_free s b ≡ false
high_not_free s b e = grind (arith, nat_tests)

-- a run of used blocks: no hole has one of them, and they stand from the first on below the end
pub given_once : (s : SpaceView) (run : Extent) → AreRuns s.first s.holes s.end → CanGive s (run ∷ [])
    → (b : ℕ) → times_in s.holes b + inside run.start (run.start + run.len) b ≤ 1
given_once s run a can b = omega (arith, can b, uses_counted s b a, inside_le s.first s.end b)

pub given_within : (s : SpaceView) (run : Extent) → AreRuns s.first s.holes s.end → CanGive s (run ∷ []) → 0 < run.len
    → (s.first ≤ run.start) × (run.start + run.len ≤ s.end)
given_within s run a can p =
    let low : (s.first ≤ run.start) × (run.start < s.end)
    = inside_bounds s.first s.end run.start (omega (
      arith,
      can run.start,
      uses_counted s run.start a,
      inside_in run.start (run.start + run.len) run.start (omega arith) (omega (arith, p)),
    )) in
    let high : (s.first ≤ run.start + run.len - 1) × (run.start + run.len - 1 < s.end)
    = inside_bounds s.first s.end (run.start + run.len - 1) (omega (
      arith,
      can (run.start + run.len - 1),
      uses_counted s (run.start + run.len - 1) a,
      inside_in run.start (run.start + run.len) (run.start + run.len - 1) (omega (arith, p)) (omega (arith, p)),
    )) in
    (low.0, omega (arith, high.1))

-- the place of a run of used blocks
pub given_gap : (s : SpaceView) (run : Extent) (i : ℕ) → AreRuns s.first s.holes s.end → CanGive s (run ∷ []) → 0 < run.len → i ≤ length s.holes
    → IsHolePlace s.holes run.start i
    → IsGap s.first s.holes i (run.start + 1) (run.start + run.len) s.end × (s.first ≤ run.start) × (run.start + run.len ≤ s.end)
given_gap s run i a can p le o =
    let within : (s.first ≤ run.start) × (run.start + run.len ≤ s.end) = given_within s run a can p in
    (place_gap s.first s.end s.holes i run le p a o (given_once s run a can), within.0, within.1)

none_before : (low high : ℕ) (rs : List Extent) (hole : Extent) (b : ℕ) → AreRuns low rs high → 0 < length rs → hole ≡ get_or rs 0 hole
    → b < hole.start → times_in rs b ≡ 0
none_before low high [] hole b a p e lt = absurd (omega arith)
none_before low high (r ∷ rs) hole b a p e lt =
    let start : hole.start ≡ r.start = ap (λ (z : Extent). z.start) e in
    omega (arith, inside_below r.start (r.start + r.len) b (omega arith), none_below (r.start + r.len + 1) high rs b a.3 (omega arith))

none_after : (low high : ℕ) (rs : List Extent) (hole : Extent) → AreRuns low rs high → 0 < length rs → hole ≡ get_or rs 0 hole
    → times_in rs (hole.start + hole.len) ≡ 0
none_after low high [] hole a p e = absurd (omega arith)
none_after low high (r ∷ rs) hole a p e =
    let end : hole.start + hole.len ≡ r.start + r.len = ap (λ (z : Extent). z.start + z.len) e in
    omega (
      arith,
      inside_above r.start (r.start + r.len) (hole.start + hole.len) (omega arith),
      none_below (r.start + r.len + 1) high rs (hole.start + hole.len) a.3 (omega arith),
    )

front_within : (low high : ℕ) (rs : List Extent) (hole : Extent) → AreRuns low rs high → 0 < length rs → hole ≡ get_or rs 0 hole
    → (low ≤ hole.start) × (hole.start + hole.len < high)
front_within low high rs hole a p e =
    let at : (low ≤ (get_or rs 0 hole).start) × (0 < (get_or rs 0 hole).len) × ((get_or rs 0 hole).start + (get_or rs 0 hole).len < high)
    = run_at low high rs 0 hole a p in
    (omega (arith, at.0, ap (λ (z : Extent). z.start) e), omega (arith, at.2, ap (λ (z : Extent). z.start + z.len) e))

-- the blocks below the first hole are used, and the one after it
pub used_before_hole : (s : SpaceView) (hole : Extent) (b : ℕ) → AreRuns s.first s.holes s.end → 0 < length s.holes → hole ≡ get_or s.holes 0 hole
    → s.first ≤ b → b < hole.start → is_used s b ≡ true
used_before_hole s hole b a p e le lt =
    let within : (s.first ≤ hole.start) × (hole.start + hole.len < s.end) = front_within s.first s.end s.holes hole a p e in
    is_used_of s b le (omega (arith, within.1)) (none_before s.first s.end s.holes hole b a p e lt)

pub used_after_hole : (s : SpaceView) (hole : Extent) → AreRuns s.first s.holes s.end → 0 < length s.holes → hole ≡ get_or s.holes 0 hole
    → is_used s (hole.start + hole.len) ≡ true
used_after_hole s hole a p e =
    let within : (s.first ≤ hole.start) × (hole.start + hole.len < s.end) = front_within s.first s.end s.holes hole a p e in
    is_used_of s (hole.start + hole.len) (omega (arith, within.0)) within.1 (none_after s.first s.end s.holes hole a p e)

times_take : (xs : List Extent) (i : ℕ) (d : Extent) (b : ℕ) → i < length xs
    → times_in (take (suc i) xs) b ≡ times_in (take i xs) b + inside (get_or xs i d).start ((get_or xs i d).start + (get_or xs i d).len) b
times_take [] i d b lt = absurd (omega arith)
times_take (x ∷ xs) zero d b lt = omega arith
times_take (x ∷ xs) (suc i) d b lt = omega (arith, times_take xs i d b (omega arith))

total_take : (xs : List Extent) (i : ℕ) (d : Extent) → i < length xs → total_len (take (suc i) xs) ≡ total_len (take i xs) + (get_or xs i d).len
total_take [] i d lt = absurd (omega arith)
total_take (x ∷ xs) zero d lt = omega arith
total_take (x ∷ xs) (suc i) d lt = omega (arith, total_take xs i d (omega arith))

-- what stands in a front stands as often in the whole
pub times_front : (xs : List Extent) (i : ℕ) (b : ℕ) → times_in (take i xs) b ≤ times_in xs b
times_front xs zero b = omega arith
times_front [] (suc i) b = omega arith
times_front (x ∷ xs) (suc i) b = omega (arith, times_front xs i b)

-- one more run marked, and one more given back
pub marked_more : (s t u : SpaceView) (xs : List Extent) (i : ℕ) (x : Extent) → i < length xs → x ≡ get_or xs i x
    → IsMarked s (take i xs) t → IsMarked t (x ∷ []) u → IsMarked s (take (i + 1) xs) u
marked_more s t u xs i x lt e m n = rw add-one (record {
  first = n.first ∙ m.first;
  used = λ b. omega (arith, m.used b, n.used b, times_take xs i x b lt, ap (λ (z : Extent). inside z.start (z.start + z.len) b) e);
  count = omega (arith, m.count, n.count, total_take xs i x lt, ap (λ (z : Extent). z.len) e);
})

pub given_more : (s t u : SpaceView) (xs : List Extent) (i : ℕ) (x : Extent) → i < length xs → x ≡ get_or xs i x
    → IsMarked t (take i xs) s → IsMarked u (x ∷ []) t → IsMarked u (take (i + 1) xs) s
given_more s t u xs i x lt e m n = rw add-one (record {
  first = m.first ∙ n.first;
  used = λ b. omega (arith, m.used b, n.used b, times_take xs i x b lt, ap (λ (z : Extent). inside z.start (z.start + z.len) b) e);
  count = omega (arith, m.count, n.count, total_take xs i x lt, ap (λ (z : Extent). z.len) e);
})

pub can_give_next : (s t : SpaceView) (xs : List Extent) (i : ℕ) (x : Extent) → i < length xs → x ≡ get_or xs i x
    → CanGive s xs → IsMarked t (take i xs) s → CanGive t (x ∷ [])
can_give_next s t xs i x lt e can m b =
    omega (arith, can b, m.used b, times_take xs i x b lt, times_front xs (suc i) b, ap (λ (z : Extent). inside z.start (z.start + z.len) b) e)

same_bool : (p q : Bool) → ◌≡◌ {A = ℕ} (if p then 1 else 0) (if q then 1 else 0) → p ≡ q
same_bool false false e = refl
same_bool true true e = refl
same_bool false true e = absurd (omega (arith, e))
same_bool true false e = absurd (omega (arith, e))

pub given_back : (s t u : SpaceView) (xs : List Extent) → IsMarked s xs t → IsMarked u xs t → SameBlocks s u
given_back s t u xs m n = record {
  first = sym n.first ∙ m.first;
  used = λ b. same_bool (is_used u b) (is_used s b) (omega (arith, m.used b, n.used b));
  count = omega (arith, m.count, n.count);
}

-- the run that comes next can be marked where all can
pub can_mark_next : (s t : SpaceView) (xs : List Extent) (i : ℕ) (x : Extent) → i < length xs → x ≡ get_or xs i x
    → CanMark s xs → IsMarked s (take i xs) t → CanMark t (x ∷ [])
can_mark_next s t xs i x lt e can m = record {
  free = λ b p.
      let more : times_in (take (suc i) xs) b ≡ times_in (take i xs) b + inside (get_or xs i x).start ((get_or xs i x).start + (get_or xs i x).len) b
      = times_take xs i x b lt in
      let same : inside x.start (x.start + x.len) b ≡ inside (get_or xs i x).start ((get_or xs i x).start + (get_or xs i x).len) b
      = ap (λ (z : Extent). inside z.start (z.start + z.len) b) e in
      let bounds : (s.first ≤ b) × (b < 4294967295) × (is_used s b ≡ false)
      = free_bounds s b (can.free b (omega (arith, p, more, same, times_front xs (suc i) b))) in
      is_free_of t b (omega (arith, bounds.0, m.first)) bounds.1
      (uses_unused t b (omega (arith, m.used b, unused_uses s b bounds.2, p, more, same, can.once b, times_front xs (suc i) b)));
  once = λ b. omega (arith, inside_le x.start (x.start + x.len) b);
}

more_uses : (s t : SpaceView) (x : Extent) (b : ℕ) → CanMark t (x ∷ []) → 0 < inside x.start (x.start + x.len) b → (t.first ≤ b) × (b < 4294967295) × (uses t b ≡ 0)
more_uses s t x b next p =
    let bounds : (t.first ≤ b) × (b < 4294967295) × (is_used t b ≡ false) = free_bounds t b (next.free b (omega (arith, p))) in
    (bounds.0, bounds.1, unused_uses t b bounds.2)

once_more : (s t : SpaceView) (xs : List Extent) (i : ℕ) (x : Extent) (b : ℕ) → i < length xs → x ≡ get_or xs i x
    → CanMark s (take i xs) → IsMarked s (take i xs) t → CanMark t (x ∷ []) → times_in (take (suc i) xs) b ≤ 1
once_more s t xs i x b lt e can m next =
    let more : times_in (take (suc i) xs) b ≡ times_in (take i xs) b + inside (get_or xs i x).start ((get_or xs i x).start + (get_or xs i x).len) b
    = times_take xs i x b lt in
    let same : inside x.start (x.start + x.len) b ≡ inside (get_or xs i x).start ((get_or xs i x).start + (get_or xs i x).len) b
    = ap (λ (z : Extent). inside z.start (z.start + z.len) b) e in
    elim (cases_lt 0 (inside x.start (x.start + x.len) b)) [
      | inl p ↦ omega (arith, (more_uses s t x b next p).2, m.used b, more, same, inside_le x.start (x.start + x.len) b)
      | inr none ↦ omega (arith, more, same, none, can.once b)
    ]

free_more : (s t : SpaceView) (xs : List Extent) (i : ℕ) (x : Extent) (b : ℕ) → i < length xs → x ≡ get_or xs i x
    → CanMark s (take i xs) → IsMarked s (take i xs) t → CanMark t (x ∷ []) → 0 < times_in (take (suc i) xs) b → is_free s b ≡ true
free_more s t xs i x b lt e can m next q =
    let more : times_in (take (suc i) xs) b ≡ times_in (take i xs) b + inside (get_or xs i x).start ((get_or xs i x).start + (get_or xs i x).len) b
    = times_take xs i x b lt in
    let same : inside x.start (x.start + x.len) b ≡ inside (get_or xs i x).start ((get_or xs i x).start + (get_or xs i x).len) b
    = ap (λ (z : Extent). inside z.start (z.start + z.len) b) e in
    elim (cases_lt 0 (inside x.start (x.start + x.len) b)) [
      | inl p ↦
          let at : (t.first ≤ b) × (b < 4294967295) × (uses t b ≡ 0) = more_uses s t x b next p in
          is_free_of s b (omega (arith, at.0, m.first)) at.1 (uses_unused s b (omega (arith, at.2, m.used b)))
      | inr none ↦ can.free b (omega (arith, q, more, same, none))
    ]

-- all can be marked so far, and the next one too
pub can_mark_more : (s t : SpaceView) (xs : List Extent) (i : ℕ) (x : Extent) → i < length xs → x ≡ get_or xs i x
    → CanMark s (take i xs) → IsMarked s (take i xs) t → CanMark t (x ∷ []) → CanMark s (take (i + 1) xs)
can_mark_more s t xs i x lt e can m next = rw add-one (record {
  free = λ b p. free_more s t xs i x b lt e can m next p;
  once = λ b. once_more s t xs i x b lt e can m next;
})
