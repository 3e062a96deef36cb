-- How a promotion begins, and what is given back at its end.
use Rattle.std.proofs.Common.{◌≡◌, ℕ, zero, suc, ◌+◌, ◌-◌, ◌<◌, ◌≤◌, ◌⊎◌, inl, inr, min, true, false, not, is_some, List, [], ◌∷◌, ◌++◌, append-nil, get_or, take, drop, length, map, Option, None, Some, refl, sym, ap, ◌∙◌, subst, arith}
use Rattle.std.specs.List.{list_all, range_with_len, sum}
use Rattle.std.proofs.lemmas.Grind.{flat_map-append}
use Rattle.std.proofs.lemmas.List.{length-drop, take-append-drop, take_more, take_all, get_or-drop}
use Rattle.std.proofs.Math.Nat.{eq-or-lt_of_le}
use Rattle.std.proofs.lemmas.List.Sums.{sum_by_more, sum_by-cons}
use Rattle.std.proofs.lemmas.List.Folds.{list_all_at}
use Rattle.std.proofs.lemmas.List.FromFn.{map-range_with_len_more, get_or-map-range_with_len, length-map-range_with_len}
use Rattle.strat_array.specs.Progress.{ArrayProgress}
use Rattle.strat_base.specs.declared.descriptors.LevelDesc.{LevelDesc}
use Rattle.strat_extent.specs.Blocks.{SpaceView, times_in, total_len}
use Rattle.strat_extent.specs.Change.{IsMarked, CanGive}
use Rattle.strat_extent.proofs.CountLemmas.{times_append, total_append}
use Rattle.strat_level.specs.Levels.{level_numbered}
use Rattle.strat_level.specs.Target.{leads_down_to}
use Rattle.strat_promote.proofs.OpeningLemmas.{level_here}
use Rattle.strat_promote.specs.Closing.{all_extents}
use Rattle.strat_promote.specs.Promotions.{is_deepest}

-- the leads of one more level stand behind those of the levels above it
pub leads_more : (f : ℕ → ℕ) (z n : ℕ) (leads : List ℕ) → 1 ≤ n → leads ≡ z ∷ map f (range_with_len 1 (n - 1)) → leads ++ f n ∷ [] ≡ z ∷ map f (range_with_len 1 (n + 1 - 1))
leads_more f z zero leads some is = absurd (omega (arith, some))
leads_more f z (suc k) leads some is =
    let last : map f (range_with_len 1 (k + 1)) ≡ map f (range_with_len 1 k) ++ f (suc k) ∷ [] = map-range_with_len_more f 1 k (suc k) (omega arith) in
    let down : ◌≡◌ {A = ℕ} (suc k - 1) k = omega arith in
    let same : ◌≡◌ {A = ℕ} (suc k + 1 - 1) (k + 1) = omega arith in
    ap (λ xs. xs ++ f (suc k) ∷ []) (is ∙ ap (λ m. z ∷ map f (range_with_len 1 m)) down) ∙ ap (λ xs. z ∷ xs) (sym last) ∙ ap (λ m. z ∷ map f (range_with_len 1 m)) (sym same)

-- down to a level there are its own leads more than down to the one above it
pub down_first : (x : ℕ) (rest : List ℕ) → x ≡ leads_down_to (x ∷ rest) 0
down_first x rest = omega arith

-- and level 0 has no more of them than all have
pub first_few : (x n : ℕ) (rest : List ℕ) → sum (x ∷ rest) ≤ n → x ≤ n
first_few x n rest le = omega (arith, le, sum_by-cons (λ (m : ℕ). m) x rest)

at_number : (F : ℕ → ℕ) (x k : ℕ) → 1 ≤ k → k < 23 → get_or (x ∷ map F (range_with_len 1 22)) k 0 ≡ F k
at_number F x zero some few = absurd (omega (arith, some))
at_number F x (suc i) some few = get_or-map-range_with_len F 1 22 i (suc i) 0 (omega (arith, few)) (omega arith)

pub down_more : (F : ℕ → ℕ) (x k total : ℕ) → 1 ≤ k → k < 23 → total ≡ leads_down_to (x ∷ map F (range_with_len 1 22)) (k - 1)
    → total + F k ≡ leads_down_to (x ∷ map F (range_with_len 1 22)) (k + 1 - 1)
down_more F x k total some few is =
    let L : List ℕ = x ∷ map F (range_with_len 1 22) in
    let long : length L ≡ 23 = ap suc (length-map-range_with_len F 1 22) in
    let before : k - 1 + 1 ≡ k = omega (arith, some) in
    let after : k + 1 - 1 + 1 ≡ k + 1 = omega arith in
    let more = sum_by_more (λ n. n) L k 0 (omega (arith, few, long)) in
    let here = at_number F x k some few in
    let was : total ≡ sum (take k L) = is ∙ ap (λ (n : ℕ). sum (take n L)) before in
    let now : sum (take (k + 1 - 1 + 1) L) ≡ sum (take (k + 1) L) = ap (λ (n : ℕ). sum (take n L)) after in
    omega (arith, was, more, here, now)

-- and behind the last one there are none
pub down_past : (F : ℕ → ℕ) (x j total : ℕ) → 22 ≤ j → total ≡ leads_down_to (x ∷ map F (range_with_len 1 22)) 22 → total ≡ leads_down_to (x ∷ map F (range_with_len 1 22)) j
down_past F x j total le is =
    let L : List ℕ = x ∷ map F (range_with_len 1 22) in
    let long : length L ≡ 23 = ap suc (length-map-range_with_len F 1 22) in
    is ∙ ap sum (take_all 23 L (omega (arith, long)) ∙ sym (take_all (j + 1) L (omega (arith, long, le))))

down_either : (F : ℕ → ℕ) (x j target total : ℕ) → j ≡ min target 22 → (j ≡ target) ⊎ (j < target) → total ≡ leads_down_to (x ∷ map F (range_with_len 1 22)) j
    → total ≡ leads_down_to (x ∷ map F (range_with_len 1 22)) target
down_either F x j target total least (inl same) is = is ∙ ap (λ (n : ℕ). leads_down_to (x ∷ map F (range_with_len 1 22)) n) same
down_either F x j target total least (inr lt) is =
    let last : ◌≡◌ {A = ℕ} j 22 = omega (arith, least, lt) in
    down_past F x target total (omega (arith, least, lt)) (is ∙ ap (λ (n : ℕ). leads_down_to (x ∷ map F (range_with_len 1 22)) n) last)

-- so down to the last level that there is, or to one above it
pub down_least : (F : ℕ → ℕ) (x j target total : ℕ) → j ≡ min target 22 → total ≡ leads_down_to (x ∷ map F (range_with_len 1 22)) j
    → total ≡ leads_down_to (x ∷ map F (range_with_len 1 22)) target
down_least F x j target total least is = down_either F x j target total least (eq-or-lt_of_le (omega (arith, least))) is

all_none : (levels : List (Option LevelDesc)) → ((i : ℕ) → i < length levels → get_or levels i None ≡ None) → list_all (λ level. not (is_some level)) levels ≡ true
all_none [] none = refl
all_none (None ∷ levels) none = all_none levels (λ i lt. none (suc i) (omega (arith, lt)))
all_none (Some level ∷ levels) none = absurd (let e = none 0 (omega arith) in cc)

-- where no level is found behind one, it is the deepest
pub none_deeper : (levels : List (Option LevelDesc)) (target : ℕ) → length levels ≡ 22 → ((n : ℕ) → target < n → n < 23 → level_numbered levels n ≡ None) → is_deepest levels target ≡ true
none_deeper levels target len none = all_none (drop target levels) (λ i lt.
    get_or-drop target levels i None ∙ sym (level_here levels (target + i))
    ∙ none (target + i + 1) (omega arith) (omega (arith, lt, len, length-drop {A = Option LevelDesc})))

deeper_at : (levels : List (Option LevelDesc)) (target k : ℕ) → k < length (drop target levels) → is_some (level_numbered levels (target + k + 1)) ≡ true → is_deepest levels target ≡ false
deeper_at levels target k lt some =
    list_all_at (λ level. not (is_some level)) (drop target levels) k None lt (ap not (ap is_some (get_or-drop target levels k None ∙ sym (level_here levels (target + k))) ∙ some))

-- and where one is found, it is not
pub one_deeper : (levels : List (Option LevelDesc)) (target n : ℕ) → length levels ≡ 22 → target < n → n < 23 → is_some (level_numbered levels n) ≡ true → is_deepest levels target ≡ false
one_deeper levels target n len lt fits some =
    let at : ◌≡◌ {A = ℕ} n (target + (n - (target + 1)) + 1) = omega (arith, lt) in
    deeper_at levels target (n - (target + 1)) (omega (arith, lt, fits, len, length-drop {A = Option LevelDesc})) (subst (λ m. is_some (level_numbered levels m) ≡ true) at some)

-- The blocks of writers, one after another.

taken_is : (ws : List ArrayProgress) (i : ℕ) (w : ArrayProgress) → i < length ws → w ≡ get_or ws i w → all_extents (take (i + 1) ws) ≡ all_extents (take i ws) ++ w.extents
taken_is ws i w lt is =
    ap all_extents (take_more ws i w lt) ∙ flat_map-append (λ x. x.extents) (take i ws) (get_or ws i w ∷ [])
    ∙ ap (λ xs. all_extents (take i ws) ++ xs) (append-nil (get_or ws i w).extents) ∙ ap (λ (x : ArrayProgress). all_extents (take i ws) ++ x.extents) (sym is)

parts_are : (ws : List ArrayProgress) (i : ℕ) → all_extents ws ≡ all_extents (take i ws) ++ all_extents (drop i ws)
parts_are ws i = ap all_extents (sym (take-append-drop i ws)) ∙ flat_map-append (λ x. x.extents) (take i ws) (drop i ws)

-- those of a writer may be given back where those of the writers before it were
pub can_give_writer : (s t : SpaceView) (ws : List ArrayProgress) (i : ℕ) (w : ArrayProgress) → i < length ws → w ≡ get_or ws i w
    → CanGive s (all_extents ws) → IsMarked t (all_extents (take i ws)) s → CanGive t w.extents
can_give_writer s t ws i w lt is can given b = omega (
  arith,
  can b,
  given.used b,
  ap {B = ℕ} (λ xs. times_in xs b) (taken_is ws i w lt is),
  times_append (all_extents (take i ws)) w.extents b,
  ap {B = ℕ} (λ xs. times_in xs b) (parts_are ws (i + 1)),
  times_append (all_extents (take (i + 1) ws)) (all_extents (drop (i + 1) ws)) b,
)

-- and then those of one more writer were given back
pub given_writer : (s t u : SpaceView) (ws : List ArrayProgress) (i : ℕ) (w : ArrayProgress) → i < length ws → w ≡ get_or ws i w
    → IsMarked t (all_extents (take i ws)) s → IsMarked u w.extents t → IsMarked u (all_extents (take (i + 1) ws)) s
given_writer s t u ws i w lt is before now = record {
  first = before.first ∙ now.first;
  used = λ b. omega (
    arith,
    before.used b,
    now.used b,
    ap {B = ℕ} (λ xs. times_in xs b) (taken_is ws i w lt is),
    times_append (all_extents (take i ws)) w.extents b,
  );
  count = omega (
    arith,
    before.count,
    now.count,
    ap {B = ℕ} total_len (taken_is ws i w lt is),
    total_append (all_extents (take i ws)) w.extents,
  );
}
