-- Versions that were dropped: what they are by the rows, and what a drop does.
use Rattle.std.proofs.Common.{◌≡◌, ◌≢◌, ◌<◌, ℕ, zero, suc, ◌+◌, ◌==◌, nat_lt, Bool, true, false, not, ◌&&◌, ◌||◌, ◌⊎◌, inl, inr, List, [], ◌∷◌, Option, Some, None, length, map, get_or, refl, sym, ap, ◌∙◌, arith, true≢false}
use Rattle.std.specs.List.{list_any, range_with_len}
use Rattle.std.specs.Option.{option_map_or}
use Rattle.std.proofs.lemmas.Bool.{ltb-true, and_parts, cases_eq, ne_eqb}
use Rattle.std.proofs.lemmas.List.{length-map, length-set, get_or-set_same, get_or-set_other}
use Rattle.std.proofs.lemmas.List.Folds.{list_any_none}
use Rattle.strat_base.specs.Tree.{Parents, parent_of}
use Rattle.strat_base.specs.Marks.{is_dropped}
use Rattle.strat_model.specs.Answer.{accepts}
use Rattle.strat_model.specs.Table.{Row, Table, parents_of, marks_in}
use Rattle.strat_model.specs.Step.{Outcome, no_row, has_row, is_frozen, pairs_at, with_dropped, drop_version}
use Rattle.strat_model.specs.Plain.{is_living_row_under}
use Rattle.strat_model.proofs.TableLemmas.{chosen, true_from_not, mark_at, row_below, same_tree}

-- a test and what always passes
and_true : (b : Bool) → (b && true) ≡ b
and_true true = refl
and_true false = refl

-- a test and what never passes
and_false : (b : Bool) → (b && false) ≡ false
and_false true = refl
and_false false = refl

-- some place of a list passes where some item does
any_by_place : {X : Type 0} (test : ℕ → Bool) (item_test : X → Bool) (d : X) (xs : List X) (k : ℕ) → ((i : ℕ) → test (k + i) ≡ item_test (get_or xs i d))
    → list_any test (range_with_len k (length xs)) ≡ list_any item_test xs
any_by_place test item_test d [] k each = refl
any_by_place test item_test d (x ∷ xs) k each =
    let first : k ≡ k + 0 = omega arith in
    let here : test k ≡ item_test x = ap test first ∙ each 0 in
    let next : (i : ℕ) → (k + 1) + i ≡ k + suc i = λ i. omega arith in
    let rest = any_by_place test item_test d xs (k + 1) (λ i. ap test (next i) ∙ each (suc i)) in
    λ j. here j || rest j

-- the parent of a version is that of its row
parent_at : (rows : List Row) (v : ℕ) → parent_of (map {A = Row} (λ row. row.parent) rows) v ≡ (get_or rows v no_row).parent
parent_at [] v = refl
parent_at (row ∷ rows) zero = refl
parent_at (row ∷ rows) (suc v) = parent_at rows v

-- a version is frozen where some row is that of a living child
pub frozen_by_rows : (t : Table) (v : ℕ) → is_frozen t v ≡ list_any (is_living_row_under v) t.rows
frozen_by_rows t v =
    let test : ℕ → Bool = λ c. option_map_or (λ p. p == v) (parent_of (parents_of t) c) false && not (is_dropped (marks_in t) c) in
    ap (λ (n : ℕ). list_any test (range_with_len 0 n)) (length-map t.rows (λ (row : Row). row.parent))
    ∙ any_by_place test (is_living_row_under v) no_row t.rows 0
    (λ i. let at : 0 + i ≡ i = omega arith in ap test at ∙ (λ j. option_map_or (λ p. p == v) (parent_at t.rows i j) false && not (mark_at t.rows i j)))

-- an outcome of a drop: it is accepted, of a version that was there; or refused, and the table is as it was
abbrev IsDrop : Table → ℕ → Outcome → Type 0
IsDrop t v o =
    ((accepts o.answer.reply ≡ true) × (has_row t v ≡ true) × (o.table.rows ≡ with_dropped t.rows v))
    ⊎ ((accepts o.answer.reply ≡ false) × (o.table ≡ t))

-- a drop has such an outcome
drop_cases : (t : Table) (v : ℕ) → IsDrop t v (drop_version t v)
drop_cases t v =
    chosen (IsDrop t v) (not (has_row t v)) _ _ (λ _. inr (refl, refl)) (λ known.
    chosen (IsDrop t v) (v == 0) _ _ (λ _. inr (refl, refl)) (λ _.
    chosen (IsDrop t v) (is_frozen t v) _ _ (λ _. inr (refl, refl)) (λ _.
    chosen (IsDrop t v) (t.changes == t.changes_max) _ _ (λ _. inr (refl, refl)) (λ _.
    inl (refl, true_from_not (has_row t v) known, refl)))))

-- a drop that is accepted drops a version that was there
accepted_drop : (t : Table) (v : ℕ) → accepts (drop_version t v).answer.reply ≡ true
    → (has_row t v ≡ true) × ((drop_version t v).table.rows ≡ with_dropped t.rows v)
accepted_drop t v yes' =
    elim (drop_cases t v) [ inl done ↦ (done.1, done.2) | inr refused ↦ absurd (true≢false (sym yes' ∙ refused.0)) ]

-- a drop that is refused changes nothing
pub refused_drop : (t : Table) (v : ℕ) → accepts (drop_version t v).answer.reply ≡ false → (drop_version t v).table ≡ t
refused_drop t v no' =
    elim (drop_cases t v) [ inl done ↦ absurd (true≢false (sym done.0 ∙ no')) | inr refused ↦ refused.1 ]

-- a version that was dropped is unknown, and its map is empty
pub drop_empties : (t : Table) (v : ℕ) → accepts (drop_version t v).answer.reply ≡ true
    → (has_row t v ≡ true) × (has_row (drop_version t v).table v ≡ false) × (pairs_at (drop_version t v).table v ≡ [])
drop_empties t v yes' =
    let done = accepted_drop t v yes' in
    let after : List Row = (drop_version t v).table.rows in
    let row : get_or after v no_row ≡ record (get_or t.rows v no_row) { dropped = true; pairs = [] } =
    ap (λ (rows : List Row). get_or rows v no_row) done.1 ∙ get_or-set_same t.rows v _ no_row (row_below t v done.0) in
    let marked : is_dropped (marks_in (drop_version t v).table) v ≡ true = mark_at after v ∙ ap (λ (r : Row). r.dropped) row in
    (done.0, ap (λ b. nat_lt v (length after) && not b) marked ∙ and_false (nat_lt v (length after)), ap (λ (r : Row). r.pairs) row)

-- the maps of other versions stay, and so does what is known
pub drop_leaves : (t : Table) (v w : ℕ) → w ≢ v → (has_row (drop_version t v).table w ≡ has_row t w) × (pairs_at (drop_version t v).table w ≡ pairs_at t w)
drop_leaves t v w apart =
    elim (drop_cases t v) [
      | inr refused ↦ (ap (λ (u : Table). has_row u w) refused.1, ap (λ (u : Table). pairs_at u w) refused.1)
      | inl done ↦
          let after : List Row = (drop_version t v).table.rows in
          let row : get_or after w no_row ≡ get_or t.rows w no_row = ap (λ (rows : List Row). get_or rows w no_row) done.2 ∙ get_or-set_other t.rows v w _ no_row apart in
          let marked : is_dropped (marks_in (drop_version t v).table) w ≡ is_dropped (marks_in t) w =
          mark_at after w ∙ ap (λ (r : Row). r.dropped) row ∙ sym (mark_at t.rows w) in
          let size : length after ≡ length t.rows = ap (λ (rows : List Row). length rows) done.2 ∙ length-set t.rows v _ in
          ((λ j. nat_lt w (size j) && not (marked j)), ap (λ (r : Row). r.pairs) row)
    ]

-- the tree stays
pub drop_keeps_tree : (t : Table) (v : ℕ) → parents_of (drop_version t v).table ≡ parents_of t
drop_keeps_tree t v =
    elim (drop_cases t v) [
      | inr refused ↦ ap (λ (u : Table). parents_of u) refused.1
      | inl done ↦ ap (λ (rows : List Row). map {A = Row} (λ row. row.parent) rows) done.2 ∙ same_tree t.rows v
    ]

-- no row is of a living child of p after the version was dropped that was the last of them
freed_rows : (t : Table) (v p : ℕ) → accepts (drop_version t v).answer.reply ≡ true
    → ((c : ℕ) → parent_of (parents_of t) c ≡ Some p → is_dropped (marks_in t) c ≡ false → c ≡ v)
    → (c : ℕ) → is_living_row_under p (get_or (drop_version t v).table.rows c no_row) ≡ false
freed_rows t v p yes' last c =
    let done = accepted_drop t v yes' in
    let at : get_or (drop_version t v).table.rows c no_row ≡ get_or (with_dropped t.rows v) c no_row = ap (λ (rows : List Row). get_or rows c no_row) done.1 in
    ap (is_living_row_under p) at
    ∙ elim (cases_eq c v) [
      | inl here ↦
          ap (λ x. is_living_row_under p (get_or (with_dropped t.rows v) x no_row)) here
          ∙ ap (is_living_row_under p) (get_or-set_same t.rows v _ no_row (row_below t v done.0))
          ∙ and_false (option_map_or (λ x. x == p) (get_or t.rows v no_row).parent false)
      | inr apart ↦
          ap (is_living_row_under p) (get_or-set_other t.rows v c _ no_row apart)
          ∙ other (get_or t.rows c no_row).parent (get_or t.rows c no_row).dropped refl refl apart
    ]
  where
    other : (o : Option ℕ) (b : Bool) → (get_or t.rows c no_row).parent ≡ o → (get_or t.rows c no_row).dropped ≡ b → c ≢ v
        → (option_map_or (λ x. x == p) o false && not b) ≡ false
    other None b above mark apart = refl
    other (Some u) true above mark apart = and_false (u == p)
    other (Some u) false above mark apart =
        elim (cases_eq u p) [
          | inl same ↦ absurd (apart (last c (parent_at t.rows c ∙ above ∙ ap Some same) (mark_at t.rows c ∙ mark)))
          | inr differs ↦ and_true (u == p) ∙ ne_eqb u p differs
        ]

-- a parent takes updates again when the last of its living children was dropped
pub drop_frees : (t : Table) (v p : ℕ) → accepts (drop_version t v).answer.reply ≡ true
    → ((c : ℕ) → parent_of (parents_of t) c ≡ Some p → is_dropped (marks_in t) c ≡ false → c ≡ v)
    → is_frozen (drop_version t v).table p ≡ false
drop_frees t v p yes' last =
    let after : List Row = (drop_version t v).table.rows in
    frozen_by_rows (drop_version t v).table p
    ∙ list_any_none (is_living_row_under p) after (λ i d lt. get_or_same after i d lt ∙ freed_rows t v p yes' last i)
  where
    get_or_same : (rows : List Row) (i : ℕ) (d : Row) → i < length rows → is_living_row_under p (get_or rows i d) ≡ is_living_row_under p (get_or rows i no_row)
    get_or_same [] i d lt = absurd (omega (arith, lt))
    get_or_same (row ∷ rows) zero d lt = refl
    get_or_same (row ∷ rows) (suc i) d lt = get_or_same rows i d (omega (arith, lt))

-- version 0 is never dropped
pub root_stays : (t : Table) → accepts (drop_version t 0).answer.reply ≡ false
root_stays t = chosen (λ (o : Outcome). accepts o.answer.reply ≡ false) (not (has_row t 0)) _ _ (λ _. refl) (λ _. refl)
