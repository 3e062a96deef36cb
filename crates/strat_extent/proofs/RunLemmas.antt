-- Runs of blocks, taken out and put in at a place.
use Rattle.std.proofs.Common.{◌⊎◌, inl, inr, ◌≡◌, ℕ, zero, suc, ◌+◌, ◌<◌, ◌≤◌, List, [], ◌∷◌, get_or, take, drop, length, refl, ap, sym, ◌∙◌, arith}
use Rattle.std.proofs.lemmas.Bool.{cases_lt}
use Rattle.std.proofs.lemmas.List.{get_or_default}
use Rattle.std.proofs.lemmas.List.Sorted.{IsNonDecreasingBy-from_default}
use Rattle.std.specs.List.{insert, remove}
use Rattle.std.specs.List.Sorted.{IsNonDecreasingBy}
use Rattle.strat_base.specs.declared.descriptors.Extent.{Extent}
use Rattle.strat_extent.specs.Blocks.{inside, times_in, total_len, AreRuns}
use Rattle.strat_extent.specs.Gap.{IsHolePlace, IsGap, HasUsedBlock}
use Rattle.strat_extent.proofs.CountLemmas.{inside_in, inside_below, inside_above, inside_past, inside_join, inside_same, times_remove}

pub runs_weaker : (low low2 high high2 : ℕ) (rs : List Extent) → low2 ≤ low → high ≤ high2 → AreRuns low rs high → AreRuns low2 rs high2
runs_weaker low low2 high high2 [] p q a = tt
runs_weaker low low2 high high2 (r ∷ rs) p q a = (
  omega (arith, a.0),
  a.1,
  omega (arith, a.2),
  runs_weaker (r.start + r.len + 1) (r.start + r.len + 1) high high2 rs (omega arith) q a.3,
)

-- a run among others
pub run_at : (low high : ℕ) (rs : List Extent) (i : ℕ) (d : Extent) → AreRuns low rs high → i < length rs
    → (low ≤ (get_or rs i d).start) × (0 < (get_or rs i d).len) × ((get_or rs i d).start + (get_or rs i d).len < high)
run_at low high [] i d a lt = absurd (omega arith)
run_at low high (r ∷ rs) zero d a lt = (a.0, a.1, a.2)
run_at low high (r ∷ rs) (suc i) d a lt =
    let at : (r.start + r.len + 1 ≤ (get_or rs i d).start) × (0 < (get_or rs i d).len) × ((get_or rs i d).start + (get_or rs i d).len < high)
    = run_at (r.start + r.len + 1) high rs i d a.3 (omega arith) in
    (omega (arith, at.0, a.0), at.1, at.2)

-- runs on both sides of a place
pub runs_joined : (low from to high : ℕ) (rs : List Extent) (i : ℕ) → low ≤ to → from ≤ to → from ≤ high
    → AreRuns low (take i rs) from → AreRuns to (drop i rs) high → AreRuns low rs high
runs_joined low from to high rs zero p q o b a = runs_weaker to low high high rs p (omega arith) a
runs_joined low from to high [] (suc i) p q o b a = tt
runs_joined low from to high (r ∷ rs) (suc i) p q o b a = (
  b.0,
  b.1,
  omega (arith, b.2),
  runs_joined (r.start + r.len + 1) from to high rs i (omega (arith, b.2)) q o b.3 a,
)

-- a run put in
pub gap_insert : (low from high : ℕ) (rs : List Extent) (i : ℕ) (x : Extent) → i ≤ length rs → 0 < x.len → x.start + x.len < high
    → from ≤ x.start → IsGap low rs i from (x.start + x.len + 1) high
    → IsGap low (insert rs i x) i from x.start high
gap_insert low from high rs zero x le p q o g = record {
  before = tt;
  after = (omega arith, p, q, g.after);
}
gap_insert low from high [] (suc i) x le p q o g = absurd (omega arith)
gap_insert low from high (r ∷ rs) (suc i) x le p q o g =
    let inner : IsGap (r.start + r.len + 1) (insert rs i x) i from x.start high
    = gap_insert (r.start + r.len + 1) from high rs i x (omega arith) p q o (record { before = g.before.3; after = g.after }) in
    record { before = (g.before.0, g.before.1, g.before.2, inner.before); after = inner.after }

-- a run that is empty
pub gap_weaker : (low low2 from from2 to to2 high high2 : ℕ) (rs : List Extent) (i : ℕ) → low2 ≤ low → from ≤ from2 → to2 ≤ to → high ≤ high2
    → IsGap low rs i from to high → IsGap low2 rs i from2 to2 high2
gap_weaker low low2 from from2 to to2 high high2 rs i p q o s g = record {
  before = runs_weaker low low2 from from2 (take i rs) p q g.before;
  after = runs_weaker to to2 high high2 (drop i rs) o s g.after;
}

-- a run taken out
pub gap_remove : (low high : ℕ) (rs : List Extent) (i : ℕ) (d : Extent) → i < length rs → AreRuns low rs high
    → IsGap low (remove rs i) i (get_or rs i d).start ((get_or rs i d).start + (get_or rs i d).len + 1) high
gap_remove low high [] i d lt a = absurd (omega arith)
gap_remove low high (r ∷ rs) zero d lt a = record { before = tt; after = a.3 }
gap_remove low high (r ∷ rs) (suc i) d lt a =
    let at : (r.start + r.len + 1 ≤ (get_or rs i d).start) × (0 < (get_or rs i d).len) × ((get_or rs i d).start + (get_or rs i d).len < high)
    = run_at (r.start + r.len + 1) high rs i d a.3 (omega arith) in
    let inner : IsGap (r.start + r.len + 1) (remove rs i) i (get_or rs i d).start ((get_or rs i d).start + (get_or rs i d).len + 1) high
    = gap_remove (r.start + r.len + 1) high rs i d (omega arith) a.3 in
    record { before = (a.0, a.1, omega (arith, at.0), inner.before); after = inner.after }

-- the run after a place taken out
pub gap_without_next : (low from to high : ℕ) (rs : List Extent) (i : ℕ) (d : Extent) → i < length rs → IsGap low rs i from to high
    → IsGap low (remove rs i) i from ((get_or rs i d).start + (get_or rs i d).len + 1) high
gap_without_next low from to high [] i d lt g = absurd (omega arith)
gap_without_next low from to high (r ∷ rs) zero d lt g = record { before = tt; after = g.after.3 }
gap_without_next low from to high (r ∷ rs) (suc i) d lt g =
    let inner : IsGap (r.start + r.len + 1) (remove rs i) i from ((get_or rs i d).start + (get_or rs i d).len + 1) high
    = gap_without_next (r.start + r.len + 1) from to high rs i d (omega arith) (record { before = g.before.3; after = g.after }) in
    record { before = (g.before.0, g.before.1, g.before.2, inner.before); after = inner.after }

-- the run before a place taken out
pub gap_without_last : (low from to high : ℕ) (rs : List Extent) (i : ℕ) (d : Extent) → i < length rs → IsGap low rs (suc i) from to high
    → IsGap low (remove rs i) i (get_or rs i d).start to high × (low ≤ (get_or rs i d).start)
gap_without_last low from to high [] i d lt g = absurd (omega arith)
gap_without_last low from to high (r ∷ rs) zero d lt g = (record { before = tt; after = g.after }, g.before.0)
gap_without_last low from to high (r ∷ rs) (suc i) d lt g =
    let inner : IsGap (r.start + r.len + 1) (remove rs i) i (get_or rs i d).start to high × (r.start + r.len + 1 ≤ (get_or rs i d).start)
    = gap_without_last (r.start + r.len + 1) from to high rs i d (omega arith) (record { before = g.before.3; after = g.after }) in (
      record { before = (g.before.0, g.before.1, omega (arith, inner.1), inner.0.before); after = inner.0.after },
      omega (arith, inner.1, g.before.0),
    )

-- where no run begins at a place's upper side, the runs after it stand one further up
pub gap_after : (low from to high : ℕ) (rs : List Extent) (i : ℕ) → ((d : Extent) → i < length rs → to < (get_or rs i d).start)
    → IsGap low rs i from to high → IsGap low rs i from (to + 1) high
gap_after low from to high [] zero p g = record { before = tt; after = tt }
gap_after low from to high [] (suc i) p g = record { before = tt; after = tt }
gap_after low from to high (r ∷ rs) zero p g = record {
  before = tt;
  after = (omega (arith, p r (omega arith)), g.after.1, g.after.2, g.after.3);
}
gap_after low from to high (r ∷ rs) (suc i) p g =
    let inner : IsGap (r.start + r.len + 1) rs i from (to + 1) high
    = gap_after (r.start + r.len + 1) from to high rs i (λ d lt. p d (omega arith)) (record { before = g.before.3; after = g.after }) in
    record { before = (g.before.0, g.before.1, g.before.2, inner.before); after = inner.after }

-- where the run before a place does not end at its lower side, the runs before it end further down
pub gap_before : (low from to high : ℕ) (rs : List Extent) (i : ℕ) → i < length rs
    → ((d : Extent) → (get_or rs i d).start + (get_or rs i d).len ≡ from → ⊥)
    → IsGap low rs (suc i) (from + 1) to high → IsGap low rs (suc i) from to high
gap_before low from to high [] i lt p g = absurd (omega arith)
gap_before low from to high (r ∷ rs) zero lt p g =
    let other : r.start + r.len ≡ from → ⊥ = p r in
    record { before = (g.before.0, g.before.1, omega (arith, g.before.2, other), tt); after = g.after }
gap_before low from to high (r ∷ []) (suc i) lt p g = absurd (omega arith)
gap_before low from to high (r ∷ (q ∷ rs)) (suc i) lt p g =
    let inner : IsGap (r.start + r.len + 1) (q ∷ rs) (suc i) from to high
    = gap_before (r.start + r.len + 1) from to high (q ∷ rs) i (omega arith) p (record { before = g.before.3; after = g.after }) in
    record {
      before = (g.before.0, g.before.1, omega (arith, inner.before.0, inner.before.2), inner.before);
      after = inner.after;
    }

-- runs stand above all that is below the first of them
pub none_below : (low high : ℕ) (rs : List Extent) (b : ℕ) → AreRuns low rs high → b < low → times_in rs b ≡ 0
none_below low high [] b a lt = refl
none_below low high (r ∷ rs) b a lt =
    omega (
      arith,
      inside_below r.start (r.start + r.len) b (omega (arith, a.0)),
      none_below (r.start + r.len + 1) high rs b a.3 (omega (arith, a.0)),
    )

-- no run has a block from the upper end on
pub none_above : (low high : ℕ) (rs : List Extent) (b : ℕ) → AreRuns low rs high → high ≤ b + 1 → times_in rs b ≡ 0
none_above low high [] b a le = refl
none_above low high (r ∷ rs) b a le =
    omega (
      arith,
      inside_above r.start (r.start + r.len) b (omega (arith, a.2)),
      none_above (r.start + r.len + 1) high rs b a.3 le,
    )

-- a block stands once in runs at most, and where it does, between their ends
pub times_runs : (low high : ℕ) (rs : List Extent) (b : ℕ) → AreRuns low rs high → times_in rs b ≤ inside low high b
times_runs low high [] b a = omega arith
times_runs low high (r ∷ rs) b a =
    let rest : times_in rs b ≤ inside (r.start + r.len + 1) high b = times_runs (r.start + r.len + 1) high rs b a.3 in
    let here : inside low high b ≡ inside low r.start b + inside r.start high b = inside_join low r.start high b a.0 (omega (arith, a.2)) in
    let there : inside r.start high b ≡ inside r.start (r.start + r.len) b + inside (r.start + r.len) high b
    = inside_join r.start (r.start + r.len) high b (omega arith) (omega (arith, a.2)) in
    let last : inside (r.start + r.len) high b ≡ inside (r.start + r.len) (r.start + r.len + 1) b + inside (r.start + r.len + 1) high b
    = inside_join (r.start + r.len) (r.start + r.len + 1) high b (omega arith) (omega (arith, a.2)) in
    omega arith

-- each of the runs but a last one is followed by a block that is in none
pub runs_span : (low high : ℕ) (rs : List Extent) → low ≤ high → AreRuns low rs high → length rs + total_len rs + low ≤ high
runs_span low high [] le a = omega arith
runs_span low high (r ∷ rs) le a =
    omega (arith, a.0, runs_span (r.start + r.len + 1) high rs (omega (arith, a.2)) a.3)

-- the starts of runs ascend
pub starts_ascend : (low high : ℕ) (rs : List Extent) (i j : ℕ) (d : Extent) → AreRuns low rs high → i ≤ j → j < length rs
    → (get_or rs i d).start ≤ (get_or rs j d).start
starts_ascend low high [] i j d a le lt = absurd (omega arith)
starts_ascend low high (r ∷ rs) zero zero d a le lt = omega arith
starts_ascend low high (r ∷ rs) zero (suc j) d a le lt =
    omega (arith, (run_at (r.start + r.len + 1) high rs j d a.3 (omega arith)).0)
starts_ascend low high (r ∷ rs) (suc i) zero d a le lt = absurd (omega arith)
starts_ascend low high (r ∷ rs) (suc i) (suc j) d a le lt =
    starts_ascend (r.start + r.len + 1) high rs i j d a.3 (omega arith) (omega arith)

-- a run of blocks that are in no run stands in a place
pub place_gap : (low high : ℕ) (rs : List Extent) (i : ℕ) (x : Extent) → i ≤ length rs → 0 < x.len → AreRuns low rs high → IsHolePlace rs x.start i
    → ((b : ℕ) → times_in rs b + inside x.start (x.start + x.len) b ≤ 1)
    → IsGap low rs i (x.start + 1) (x.start + x.len) high
place_gap low high [] zero x le p a o once = record { before = tt; after = tt }
place_gap low high [] (suc i) x le p a o once = absurd (omega arith)
place_gap low high (r ∷ rs) zero x le p a o once =
    let above : x.start < r.start = o.after zero r (omega arith) (omega arith) in
    let past : x.start + x.len ≤ r.start
    = inside_past x.start (x.start + x.len) r.start
    (omega (arith, once r.start, inside_in r.start (r.start + r.len) r.start (omega arith) (omega (arith, a.1)))) (omega arith) in
    record { before = tt; after = (past, a.1, a.2, a.3) }
place_gap low high (r ∷ rs) (suc i) x le p a o once =
    let under : r.start ≤ x.start = o.before zero r (omega arith) in
    let past : r.start + r.len ≤ x.start
    = inside_past r.start (r.start + r.len) x.start
    (omega (arith, once x.start, inside_in x.start (x.start + x.len) x.start (omega arith) (omega (arith, p)))) under in
    let inner : IsGap (r.start + r.len + 1) rs i (x.start + 1) (x.start + x.len) high
    = place_gap (r.start + r.len + 1) high rs i x (omega arith) p a.3
    (record { before = λ k d lt. o.before (suc k) d (omega arith); after = λ k d ge lt. o.after (suc k) d (omega arith) (omega arith) })
    (λ b. omega (arith, once b)) in
    record { before = (a.0, a.1, omega (arith, past), inner.before); after = inner.after }

-- an element read twice
pub same_read : (rs : List Extent) (i : ℕ) (a b : Extent) → i < length rs → a ≡ get_or rs i a → b ≡ get_or rs i b → a ≡ b
same_read rs i a b lt e f = e ∙ get_or_default rs i a b lt ∙ sym f

-- the run after a place, if there is one
next_at : (to high : ℕ) (rs : List Extent) (i : ℕ) (d : Extent) → i < length rs → AreRuns to (drop i rs) high
    → (to ≤ (get_or rs i d).start) × ((get_or rs i d).start + (get_or rs i d).len < high)
next_at to high [] i d lt a = absurd (omega arith)
next_at to high (r ∷ rs) zero d lt a = (a.0, a.2)
next_at to high (r ∷ rs) (suc i) d lt a = next_at to high rs i d (omega arith) a

-- the run after a place taken out, where it begins at the place's upper side
pub above_joined : (low from high : ℕ) (rs : List Extent) (i : ℕ) (x above : Extent) → i < length rs → above ≡ get_or rs i above
    → above.start ≡ x.start + x.len → IsGap low rs i from (x.start + x.len) high
    → IsGap low (remove rs i) i from (x.start + (x.len + above.len) + 1) high × (x.start + (x.len + above.len) ≤ high)
above_joined low from high rs i x above lt e s g =
    let at : (x.start + x.len ≤ (get_or rs i above).start) × ((get_or rs i above).start + (get_or rs i above).len < high)
    = next_at (x.start + x.len) high rs i above lt g.after in
    let start : above.start ≡ (get_or rs i above).start = ap (λ (z : Extent). z.start) e in
    let len : above.len ≡ (get_or rs i above).len = ap (λ (z : Extent). z.len) e in (
      gap_weaker low low from from ((get_or rs i above).start + (get_or rs i above).len + 1) (x.start + (x.len + above.len) + 1) high high
          (remove rs i) i (omega arith) (omega arith) (omega arith) (omega arith)
          (gap_without_next low from (x.start + x.len) high rs i above lt g),
      omega arith,
    )

pub above_counted : (rs : List Extent) (i : ℕ) (x above : Extent) (b : ℕ) → i < length rs → above ≡ get_or rs i above
    → above.start ≡ x.start + x.len
    → inside x.start (x.start + (x.len + above.len)) b + times_in (remove rs i) b ≡ inside x.start (x.start + x.len) b + times_in rs b
above_counted rs i x above b lt e s =
    let out : inside above.start (above.start + above.len) b + times_in (remove rs i) b ≡ times_in rs b = times_remove rs i above b lt e in
    let split : inside x.start (x.start + (x.len + above.len)) b ≡ inside x.start (x.start + x.len) b + inside (x.start + x.len) (x.start + (x.len + above.len)) b
    = inside_join x.start (x.start + x.len) (x.start + (x.len + above.len)) b (omega arith) (omega arith) in
    let alike : inside above.start (above.start + above.len) b ≡ inside (x.start + x.len) (x.start + (x.len + above.len)) b
    = inside_same _ _ _ _ b s (omega arith) in
    omega arith

-- the run before a place taken out, where it ends at the place's lower side
pub below_joined : (low to high : ℕ) (rs : List Extent) (i : ℕ) (x below : Extent) → i < length rs → below ≡ get_or rs i below
    → IsGap low rs (suc i) (x.start + 1) to high
    → IsGap low (remove rs i) i below.start to high × (low ≤ below.start)
below_joined low to high rs i x below lt e g =
    let start : below.start ≡ (get_or rs i below).start = ap (λ (z : Extent). z.start) e in
    let inner : IsGap low (remove rs i) i (get_or rs i below).start to high × (low ≤ (get_or rs i below).start)
    = gap_without_last low (x.start + 1) to high rs i below lt g in (
      gap_weaker low low (get_or rs i below).start below.start to to high high (remove rs i) i
          (omega arith) (omega arith) (omega arith) (omega arith) inner.0,
      omega (arith, inner.1),
    )

pub below_counted : (rs : List Extent) (i : ℕ) (x below : Extent) (b : ℕ) → i < length rs → below ≡ get_or rs i below
    → below.start + below.len ≡ x.start
    → inside below.start (below.start + (below.len + x.len)) b + times_in (remove rs i) b ≡ inside x.start (x.start + x.len) b + times_in rs b
below_counted rs i x below b lt e s =
    let out : inside below.start (below.start + below.len) b + times_in (remove rs i) b ≡ times_in rs b = times_remove rs i below b lt e in
    let split : inside below.start (below.start + (below.len + x.len)) b
    ≡ inside below.start (below.start + below.len) b + inside (below.start + below.len) (below.start + (below.len + x.len)) b
    = inside_join below.start (below.start + below.len) (below.start + (below.len + x.len)) b (omega arith) (omega arith) in
    let alike : inside (below.start + below.len) (below.start + (below.len + x.len)) b ≡ inside x.start (x.start + x.len) b
    = inside_same _ _ _ _ b s (omega arith) in
    omega arith

-- where the starts of runs are at most a block is told at some place
pub starts_apart : (low high : ℕ) (rs : List Extent) → AreRuns low rs high → IsNonDecreasingBy (λ (r : Extent). r.start) rs
starts_apart low high rs a = IsNonDecreasingBy-from_default (λ (r : Extent). r.start) rs (record { start = 0; len = 0 })
    (λ i j le lt. starts_ascend low high rs i j (record { start = 0; len = 0 }) a le lt)

-- where all starts are above a block, the runs stand above it
runs_past : (low high : ℕ) (rs : List Extent) (block : ℕ) → AreRuns low rs high → ((k : ℕ) (d : Extent) → k < length rs → block < (get_or rs k d).start)
    → AreRuns (block + 1) rs high
runs_past low high [] block a after = tt
runs_past low high (r ∷ rs) block a after = (omega (arith, after zero r (omega arith)), a.1, a.2, a.3)

-- no run before a place has a block from where the last of them ends
last_ends : (low high : ℕ) (rs : List Extent) (i : ℕ) (block w : ℕ) (d : Extent) → i < length rs → AreRuns low rs high → IsHolePlace rs block (suc i)
    → (get_or rs i d).start + (get_or rs i d).len ≤ w → w ≤ block ⊎ (w ≡ (get_or rs i d).start + (get_or rs i d).len)
    → times_in rs w ≡ 0
last_ends low high [] i block w d lt a o le at = absurd (omega arith)
last_ends low high (r ∷ rs) zero block w d lt a o le at =
    let here : inside r.start (r.start + r.len) w ≡ 0 = inside_above r.start (r.start + r.len) w le in
    let past : AreRuns (block + 1) rs high
    = runs_past (r.start + r.len + 1) high rs block a.3 (λ k e lt2. o.after (suc k) e (omega arith) (omega arith)) in
    let rest : times_in rs w ≡ 0
    = elim at [
      | inl under ↦ none_below (block + 1) high rs w past (omega arith)
      | inr same ↦ none_below (r.start + r.len + 1) high rs w a.3 (omega arith)
    ] in
    omega arith
last_ends low high (r ∷ rs) (suc i) block w d lt a o le at =
    let last : (r.start + r.len + 1 ≤ (get_or rs i d).start) × (0 < (get_or rs i d).len) × ((get_or rs i d).start + (get_or rs i d).len < high)
    = run_at (r.start + r.len + 1) high rs i d a.3 (omega arith) in
    let here : inside r.start (r.start + r.len) w ≡ 0 = inside_above r.start (r.start + r.len) w (omega (arith, last.0)) in
    let rest : times_in rs w ≡ 0
    = last_ends (r.start + r.len + 1) high rs i block w d (omega arith) a.3
    (record { before = λ k e lt2. o.before (suc k) e (omega arith); after = λ k e ge lt2. o.after (suc k) e (omega arith) (omega arith) })
    le at in
    omega arith

-- a run that begins in no run has a used block
pub used_before_all : (low high : ℕ) (rs : List Extent) (run : Extent) → 0 < run.len → low ≤ run.start → run.start < high → AreRuns low rs high
    → IsHolePlace rs run.start 0 → HasUsedBlock low rs high run
used_before_all low high rs run p le lt a o = record {
  block = run.start;
  from = omega arith;
  to = omega arith;
  above = le;
  below = lt;
  none = none_below (run.start + 1) high rs run.start (runs_past low high rs run.start a (λ k d lt2. o.after k d (omega arith) lt2)) (omega arith);
}

-- a run that reaches past the run in which it may begin has a used block
pub used_after_last : (low high : ℕ) (rs : List Extent) (i : ℕ) (run hole : Extent) → i < length rs → 0 < run.len → low ≤ run.start → run.start < high
    → AreRuns low rs high → IsHolePlace rs run.start (suc i) → hole ≡ get_or rs i hole → hole.start + hole.len < run.start + run.len
    → HasUsedBlock low rs high run
used_after_last low high rs i run hole lt p le below a o e out =
    let at : (low ≤ (get_or rs i hole).start) × (0 < (get_or rs i hole).len) × ((get_or rs i hole).start + (get_or rs i hole).len < high)
    = run_at low high rs i hole a lt in
    let end : hole.start + hole.len ≡ (get_or rs i hole).start + (get_or rs i hole).len = ap (λ (z : Extent). z.start + z.len) e in
    elim (cases_lt run.start (hole.start + hole.len)) [
      | inr under ↦ record {
        block = run.start;
        from = omega arith;
        to = omega arith;
        above = le;
        below = below;
        none = last_ends low high rs i run.start run.start hole lt a o (omega arith) (inl (omega arith));
      }
      | inl over ↦ record {
        block = hole.start + hole.len;
        from = omega arith;
        to = out;
        above = omega (arith, over);
        below = omega (arith, at.2);
        none = last_ends low high rs i run.start (hole.start + hole.len) hole lt a o (omega arith) (inr (omega arith));
      }
    ]

-- nothing stands past an end
pub runs_ended : (low from to high : ℕ) (rs : List Extent) (i : ℕ) → high ≤ to → AreRuns low (take i rs) from → AreRuns to (drop i rs) high
    → AreRuns low rs from
runs_ended low from to high [] zero le b a = tt
runs_ended low from to high [] (suc i) le b a = tt
runs_ended low from to high (r ∷ rs) zero le b a = absurd (omega (arith, a.0, a.2))
runs_ended low from to high (r ∷ rs) (suc i) le b a =
    (b.0, b.1, b.2, runs_ended (r.start + r.len + 1) from to high rs i le b.3 a)

-- the place of a run that was taken out
pub cut_gap : (low high : ℕ) (rs : List Extent) (i : ℕ) (hole : Extent) → i < length rs → hole ≡ get_or rs i hole → AreRuns low rs high
    → IsGap low (remove rs i) i hole.start (hole.start + hole.len + 1) high × (low ≤ hole.start) × (hole.start + hole.len < high)
cut_gap low high rs i hole lt e a =
    let at : (low ≤ (get_or rs i hole).start) × (0 < (get_or rs i hole).len) × ((get_or rs i hole).start + (get_or rs i hole).len < high)
    = run_at low high rs i hole a lt in
    let start : hole.start ≡ (get_or rs i hole).start = ap (λ (z : Extent). z.start) e in
    let len : hole.len ≡ (get_or rs i hole).len = ap (λ (z : Extent). z.len) e in (
      gap_weaker low low (get_or rs i hole).start hole.start ((get_or rs i hole).start + (get_or rs i hole).len + 1) (hole.start + hole.len + 1) high high
          (remove rs i) i (omega arith) (omega arith) (omega arith) (omega arith) (gap_remove low high rs i hole lt a),
      omega (arith, at.0),
      omega (arith, at.2),
    )

-- what is left of a hole on both sides of a run
pub cut_counted : (rs : List Extent) (i : ℕ) (run hole : Extent) (b : ℕ) → i < length rs → hole ≡ get_or rs i hole
    → hole.start ≤ run.start → run.start + run.len ≤ hole.start + hole.len
    → inside run.start (run.start + run.len) b + (inside hole.start run.start b
    + (inside (run.start + run.len) (hole.start + hole.len) b + times_in (remove rs i) b)) ≡ times_in rs b
cut_counted rs i run hole b lt e le to =
    let out : inside hole.start (hole.start + hole.len) b + times_in (remove rs i) b ≡ times_in rs b = times_remove rs i hole b lt e in
    let first : inside hole.start (hole.start + hole.len) b ≡ inside hole.start run.start b + inside run.start (hole.start + hole.len) b
    = inside_join hole.start run.start (hole.start + hole.len) b le (omega arith) in
    let second : inside run.start (hole.start + hole.len) b ≡ inside run.start (run.start + run.len) b + inside (run.start + run.len) (hole.start + hole.len) b
    = inside_join run.start (run.start + run.len) (hole.start + hole.len) b (omega arith) to in
    omega arith

-- a gap is in none of the runs
pub gap_span : (low from to high : ℕ) (rs : List Extent) (i : ℕ) → low ≤ from → to ≤ high → IsGap low rs i from to high
    → length rs + total_len rs + low + to ≤ from + high
gap_span low from to high rs zero le le2 g = omega (arith, runs_span to high rs le2 g.after)
gap_span low from to high [] (suc i) le le2 g = omega arith
gap_span low from to high (r ∷ rs) (suc i) le le2 g =
    omega (arith, g.before.0, gap_span (r.start + r.len + 1) from to high rs i (omega (arith, g.before.2)) le2 (record { before = g.before.3; after = g.after }))

pub total_at : (rs : List Extent) (i : ℕ) (d : Extent) → i < length rs → (get_or rs i d).len ≤ total_len rs
total_at [] i d lt = absurd (omega arith)
total_at (r ∷ rs) zero d lt = omega arith
total_at (r ∷ rs) (suc i) d lt = omega (arith, total_at rs i d (omega arith))

-- behind the last run there is room
pub gap_all : (low high to top : ℕ) (rs : List Extent) (i : ℕ) → length rs ≤ i → AreRuns low rs high → IsGap low rs i high to top
gap_all low high to top [] zero le a = record { before = tt; after = tt }
gap_all low high to top [] (suc i) le a = record { before = tt; after = tt }
gap_all low high to top (r ∷ rs) zero le a = absurd (omega arith)
gap_all low high to top (r ∷ rs) (suc i) le a =
    let inner : IsGap (r.start + r.len + 1) rs i high to top = gap_all (r.start + r.len + 1) high to top rs i (omega arith) a.3 in
    record { before = (a.0, a.1, a.2, inner.before); after = inner.after }
