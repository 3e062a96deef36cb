-- A merge of marked runs gives all of their entries, and of each run just its own, in their order.
use Rattle.std.proofs.Common.{◌≡◌, ◌<◌, ◌≤◌, ◌+◌, ◌*◌, ◌%◌, ℕ, zero, suc, true, false, inl, inr, List, [], ◌∷◌, length, map, filter, None, Some, refl, sym, ap, ◌∙◌, subst, arith, true≢false}
use Rattle.std.specs.List.{find, slice_get}
use Rattle.std.specs.Ordering.{is_lt, nat_cmp, ordering_then}
use Rattle.std.specs.declared.cmp.Ordering.{Ordering}
use Rattle.std.specs.declared.cmp.Ordering.TheVariants.{Less, Equal, Greater}
use Rattle.std.specs.Cmp.{nat_cmp_is}
use Rattle.std.proofs.lemmas.Bool.{eqb-true, eq-eqb, and_parts, and_from}
use Rattle.std.proofs.lemmas.Cmp.{ranked}
use Rattle.std.proofs.lemmas.Nat.{div-mul-add, mod-mul-add}
use Rattle.strat_base.specs.Order.{key_cmp}
use Rattle.strat_base.specs.Entries.{Entry, is_at, is_ascending}
use Rattle.strat_base.proofs.ListFacts.{Among, all_from, find_some, find_none, among_split, among_left, among_right, among_filter, filter_among}
use Rattle.strat_base.proofs.EntryLemmas.{is_at_version, at_key_version, single_same}
use Rattle.strat_base.proofs.ResultFacts.{option_cases}
use Rattle.def_state.proofs.LevelLemmas.{ascending_single}
use Rattle.def_state.proofs.SettingLemmas.{order, stands_first, first_of}
use Rattle.def_split.specs.Groups.{grouped_entries}
use Rattle.def_split.proofs.ListLemmas.{map_among, filter_ascending}
use Rattle.def_promote.specs.Merging.{Merges}
use Rattle.def_promote.specs.Union.{IsUnion}
use Rattle.def_promote.proofs.MergingLemmas.{merged}
use Rattle.def_promote.proofs.UnionLemmas.{ascending_unique, find_single}
use Rattle.def_check.specs.Marked.{marked, unmarked, is_from_run, marked_runs, told_of_run}

-- marks of one run keep the order of two entries
pub marked_order : (i : ℕ) (e d : Entry) → order e d ≡ Less → is_lt (order (marked i e) (marked i d)) ≡ true
marked_order i e d less = go (key_cmp e.key d.key) refl less
  where
    go : (o : Ordering) → key_cmp e.key d.key ≡ o → ordering_then o (nat_cmp d.version e.version) ≡ Less → is_lt (order (marked i e) (marked i d)) ≡ true
    go Less k h = ap (λ (o : Ordering). is_lt (ordering_then o (nat_cmp (d.version * 16384 + i) (e.version * 16384 + i)))) k
    go Equal k h =
        let lower : d.version < e.version = ranked d.version e.version Less (sym h) in
        ap (λ (o : Ordering). is_lt (ordering_then o (nat_cmp (d.version * 16384 + i) (e.version * 16384 + i)))) k
        ∙ ap is_lt (sym (nat_cmp_is (d.version * 16384 + i) (e.version * 16384 + i) Less (omega (arith, lower))))
    go Greater k h = absurd (cc)

pub marked_ascending : (i : ℕ) (run : List Entry) → is_ascending run ≡ true → is_ascending (map (marked i) run) ≡ true
marked_ascending i [] up = refl
marked_ascending i (e ∷ run) up =
    let parts = and_parts (stands_first e run) (is_ascending run) up in
    and_from (stands_first (marked i e) (map (marked i) run)) (is_ascending (map (marked i) run))
    (all_from (λ later. is_lt (order (marked i e) later)) (map (marked i) run) (λ d among.
    let at = map_among (marked i) run d among in
    subst (λ (x : Entry). is_lt (order (marked i e) x) ≡ true) (sym at.2) (marked_order i e at.0 (first_of e at.0 run parts.0 at.1))))
    (marked_ascending i run parts.1)

-- an entry of marked runs is one of a run, with its mark
among_marked : (i : ℕ) (runs : List (List Entry)) (e : Entry) → Among e (grouped_entries (marked_runs i runs))
    → (k : ℕ) × (run : List Entry) × (slice_get runs k ≡ Some run) × Among e (map (marked (i + k)) run)
among_marked i [] e among = absurd among
among_marked i (run ∷ runs) e among =
    elim (among_split (map (marked i) run) (grouped_entries (marked_runs (suc i) runs)) e among) [
      | inl here ↦ let same : i ≡ i + 0 = omega arith in (0, run, refl, subst (λ (j : ℕ). Among e (map (marked j) run)) same here)
      | inr there ↦
          let found = among_marked (suc i) runs e there in
          let same : suc i + found.0 ≡ i + suc found.0 = omega arith in
          (suc found.0, found.1, found.2, subst (λ (j : ℕ). Among e (map (marked j) found.1)) same found.3)
    ]

marked_among : (i k : ℕ) (runs : List (List Entry)) (run : List Entry) (e : Entry) → slice_get runs k ≡ Some run → Among e (map (marked (i + k)) run) → Among e (grouped_entries (marked_runs i runs))
marked_among i k [] run e is among = absurd (cc)
marked_among i zero (first ∷ runs) run e is among =
    let here : first ≡ run = cc in
    let same : i + 0 ≡ i = omega arith in
    among_left (map (marked i) first) (grouped_entries (marked_runs (suc i) runs)) e
    (subst (λ (j : ℕ). Among e (map (marked j) first)) same (subst (λ (r : List Entry). Among e (map (marked (i + 0)) r)) (sym here) among))
marked_among i (suc k) (first ∷ runs) run e is among =
    let same : i + suc k ≡ suc i + k = omega arith in
    among_right (map (marked i) first) (grouped_entries (marked_runs (suc i) runs)) e
    (marked_among (suc i) k runs run e is (subst (λ (j : ℕ). Among e (map (marked j) run)) same among))

-- the same of all runs
pub from_first : (runs : List (List Entry)) (e : Entry) → Among e (grouped_entries (marked_runs 0 runs))
    → (k : ℕ) × (run : List Entry) × (slice_get runs k ≡ Some run) × Among e (map (marked k) run)
from_first runs e among =
    let found = among_marked 0 runs e among in
    let same : 0 + found.0 ≡ found.0 = omega arith in
    (found.0, found.1, found.2, subst (λ (j : ℕ). Among e (map (marked j) found.1)) same found.3)

to_first : (k : ℕ) (runs : List (List Entry)) (run : List Entry) (e : Entry) → slice_get runs k ≡ Some run → Among e (map (marked k) run) → Among e (grouped_entries (marked_runs 0 runs))
to_first k runs run e is among =
    let same : k ≡ 0 + k = omega arith in
    marked_among 0 k runs run e is (subst (λ (j : ℕ). Among e (map (marked j) run)) same among)

pub some_less : (runs : List (List Entry)) (k : ℕ) (run : List Entry) → slice_get runs k ≡ Some run → k < length runs
some_less [] k run is = absurd (cc)
some_less (first ∷ runs) zero run is = omega arith
some_less (first ∷ runs) (suc k) run is = let rest = some_less runs k run is in omega (arith, rest)

pub place_marked : (k : ℕ) (run : List Entry) (e : Entry) → k < 16384 → Among e (map (marked k) run) → e.version % 16384 ≡ k
place_marked k run e low among =
    let at = map_among (marked k) run e among in
    ap (λ (x : Entry). x.version % 16384) at.2 ∙ mod-mul-add at.0.version 16384 k low

module _ (runs groups : List (List Entry)) (few : length runs ≤ 16384) (ascending : (k : ℕ) (run : List Entry) → slice_get runs k ≡ Some run → is_ascending run ≡ true) (merges : Merges (marked_runs 0 runs) groups) where
  module _ (i : ℕ) (run : List Entry) (is : slice_get runs i ≡ Some run) where
    low : i < 16384
    low = let less = some_less runs i run is in omega (arith, less, few)

    up : is_ascending (map (marked i) run) ≡ true
    up = marked_ascending i run (ascending i run is)

    union : IsUnion (grouped_entries (marked_runs 0 runs)) (grouped_entries groups)
    union = (merged (marked_runs 0 runs) groups merges).0

    -- of one run there is one entry of a key and version, and no other run has it
    same_run : (e d : Entry) → Among e (map (marked i) run) → Among d (grouped_entries (marked_runs 0 runs)) → is_at e.key e.version d ≡ true → e ≡ d
    same_run e d mine other at =
        let found = from_first runs d other in
        let k : ℕ = found.0 in
        let less = some_less runs k found.1 found.2 in
        let there : Among d (map (marked k) found.1) = found.3 in
        let version : d.version ≡ e.version = is_at_version e.key e.version d at in
        let place : k ≡ i = sym (place_marked k found.1 d (omega (arith, less, few)) there) ∙ ap (λ (x : ℕ). x % 16384) version ∙ place_marked i run e low mine in
        let one : Some found.1 ≡ Some run = sym found.2 ∙ ap (λ (j : ℕ). slice_get runs j) place ∙ is in
        let runs_same : found.1 ≡ run = cc in
        let d_mine : Among d (map (marked i) run) = subst (λ (j : ℕ). Among d (map (marked j) run)) place (subst (λ (r : List Entry). Among d (map (marked k) r)) runs_same there) in
        single_same (map (marked i) run) e d (ascending_single (map (marked i) run) up) mine d_mine at

    pub to : (e : Entry) → Among e (map (marked i) run) → Among e (filter (is_from_run i) (grouped_entries groups))
    to e mine =
        let all = to_first i runs run e is mine in
        among_filter (is_from_run i) (grouped_entries groups) e
        (elim (option_cases (find (is_at e.key e.version) (grouped_entries (marked_runs 0 runs)))) [
          | inl none ↦ absurd (true≢false (sym (at_key_version e.key e.version e refl refl) ∙ find_none' e all none))
          | inr found ↦
              let at = find_some (is_at e.key e.version) (grouped_entries (marked_runs 0 runs)) found.0 found.1 in
              let same = same_run e found.0 mine at.0 at.1 in
              let inside = find_some (is_at e.key e.version) (grouped_entries groups) found.0 (union.first e.key e.version ∙ found.1) in
              subst (λ (x : Entry). Among x (grouped_entries groups)) (sym same) inside.0
        ])
        (eq-eqb (e.version % 16384) i (place_marked i run e low mine))
      where
        find_none' : (e : Entry) → Among e (grouped_entries (marked_runs 0 runs)) → find (is_at e.key e.version) (grouped_entries (marked_runs 0 runs)) ≡ None → is_at e.key e.version e ≡ false
        find_none' e among none = find_none (is_at e.key e.version) (grouped_entries (marked_runs 0 runs)) e none among

    back : (e : Entry) → Among e (filter (is_from_run i) (grouped_entries groups)) → Among e (map (marked i) run)
    back e among =
        let kept = filter_among (is_from_run i) (grouped_entries groups) e among in
        let single = find_single (grouped_entries groups) e (ascending_single (grouped_entries groups) union.ascending) kept.0 in
        let there = find_some (is_at e.key e.version) (grouped_entries (marked_runs 0 runs)) e (sym (union.first e.key e.version) ∙ single) in
        let found = from_first runs e there.0 in
        let less = some_less runs found.0 found.1 found.2 in
        let place : found.0 ≡ i = sym (place_marked found.0 found.1 e (omega (arith, less, few)) found.3) ∙ eqb-true (e.version % 16384) i kept.1 in
        let one : Some found.1 ≡ Some run = sym found.2 ∙ ap (λ (j : ℕ). slice_get runs j) place ∙ is in
        let runs_same : found.1 ≡ run = cc in
        subst (λ (j : ℕ). Among e (map (marked j) run)) place (subst (λ (r : List Entry). Among e (map (marked found.0) r)) runs_same found.3)

    marks_told : filter (is_from_run i) (grouped_entries groups) ≡ map (marked i) run
    marks_told = ascending_unique (filter (is_from_run i) (grouped_entries groups)) (map (marked i) run) (filter_ascending (is_from_run i) (grouped_entries groups) union.ascending) up back to

    unmarks : (xs : List Entry) → map unmarked (map (marked i) xs) ≡ xs
    unmarks [] = refl
    unmarks (e ∷ xs) = λ j. record e { version = div-mul-add e.version 16384 i low j } ∷ unmarks xs j

    pub run_told : told_of_run i groups ≡ run
    run_told = ap (λ (xs : List Entry). map unmarked xs) marks_told ∙ unmarks run
