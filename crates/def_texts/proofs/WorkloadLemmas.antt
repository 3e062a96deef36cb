-- The changes of a workload are as many as were asked for, and are accepted.
use Rattle.std.proofs.Common.{◌≡◌, ◌≤◌, ◌<◌, ◌+◌, ◌-◌, ◌%◌, ℕ, zero, suc, Bool, true, false, cond, eqb, leb, ltb, not, ◌&&◌, inl, inr, List, [], ◌∷◌, ◌++◌, length, Option, Some, None, refl, sym, ap, ◌∙◌, arith, true≢false, length-append, mod-lt}
use Rattle.std.specs.Fmt.{decimal}
use Rattle.std.specs.Option.{option_map_or, unwrap_or}
use Rattle.std.specs.List.{find, range_with_len}
use Rattle.std.proofs.lemmas.Bool.{and_from, eqb-true, ltb-true, lt-ltb, not-true}
use Rattle.std.proofs.lemmas.Bool.Decides.{nat_tests}
use Rattle.strat_base.specs.Tree.{Parents, is_known, has_child}
use Rattle.strat_base.specs.Change.{Change, Put, Delete, Clone}
use Rattle.strat_base.proofs.ListFacts.{any_among, among_split, find_some, range_among, any_from}
use Rattle.strat_base.proofs.ResultFacts.{option_cases}
use Rattle.def_state.specs.State.{tree_after, marks_after}
use Rattle.def_state.specs.Sound.{is_accepted, are_accepted, takes_updates}
use Rattle.def_texts.specs.Workload.{next_draw, drawn, leaf_from, drawn_key, drawn_update, drawn_change, changes_from, workload_changes, frames_from, workload}
use Rattle.strat_base.specs.Marks.{Marks, none_dropped}
use Rattle.def_state.proofs.UndroppedLemmas.{there_made, open_made, none_pushed}

many : (n i state : ℕ) (parents : Parents) → length (changes_from n i state parents) ≡ n
unfolding changes_from
many zero i state parents = refl
many (suc n) i state parents =
    let third : ℕ = next_draw (next_draw (next_draw state)) in
    let change : Change = drawn_change parents i (drawn (next_draw state) % 64) (drawn (next_draw (next_draw state))) (drawn third % 1000) in
    ap suc (many n (suc i) third (tree_after parents change))

framed : (i : ℕ) (changes : List Change) → length (frames_from i changes) ≡ length changes
framed i [] = refl
framed i (change ∷ changes) = ap suc (framed (suc i) changes)

pub lengths : (seed count : ℕ) → (length (workload_changes seed count) ≡ count) × (length (workload seed count) ≡ count)
lengths seed count =
    let all' = many count 1 seed (None ∷ []) in
    (all', framed 1 (workload_changes seed count) ∙ all')

-- a version is there, and the newest has no child
record Grows (parents : Parents) : Type 0 where
  some : 0 < length parents
  newer : (v : ℕ) → has_child parents v ≡ true → suc v < length parents

newest : (parents : Parents) → Grows parents → has_child parents (length parents - 1) ≡ false
newest parents grows =
    elim (has_child parents (length parents - 1)) as (λ b. has_child parents (length parents - 1) ≡ b → b ≡ false) [
      | true ↦ λ is. absurd (omega (arith, grows.newer (length parents - 1) is, grows.some))
      | false ↦ λ is. refl
    ] refl

grown : (parents : Parents) (p : ℕ) → Grows parents → p < length parents → Grows (parents ++ Some p ∷ [])
grown parents p grows known =
    let more : length (parents ++ Some p ∷ []) ≡ suc (length parents) = omega (arith, length-append parents (Some p ∷ [])) in
    record {
      some = omega (arith, more);
      newer = λ v is.
          let mine = any_among (λ parent. option_map_or (λ q. eqb q v) parent false) (parents ++ Some p ∷ []) is in
          elim (among_split parents (Some p ∷ []) mine.0 mine.1) [
            | inl old ↦
                let lt = grows.newer v (any_from (λ parent. option_map_or (λ q. eqb q v) parent false) mine.0 parents old mine.2) in
                omega (arith, lt, more)
            | inr new ↦ elim new [
              | inl same ↦
                  let at : eqb p v ≡ true = ap (λ (o : Option ℕ). option_map_or (λ q. eqb q v) o false) (sym same) ∙ mine.2 in
                  omega (arith, eqb-true p v at, known, more)
              | inr none ↦ absurd none
            ]
          ];
    }

-- the version of an update is there and has no child
leaf : (parents : Parents) (v : ℕ) → Grows parents → v < length parents → (leaf_from parents v < length parents) × (has_child parents (leaf_from parents v) ≡ false)
leaf parents v grows known =
    elim (option_cases (find (λ u. not (has_child parents u)) (range_with_len v (length parents - v)))) [
      | inl none ↦
          let at : leaf_from parents v ≡ length parents - 1 = ap (λ (o : Option ℕ). unwrap_or o (length parents - 1)) none in
          (omega (arith, at, grows.some), ap (has_child parents) at ∙ newest parents grows)
      | inr u ↦
          let at : leaf_from parents v ≡ u.0 = ap (λ (o : Option ℕ). unwrap_or o (length parents - 1)) u.1 in
          let there = find_some (λ u. not (has_child parents u)) (range_with_len v (length parents - v)) u.0 u.1 in
          let lt = (range_among v (length parents - v) u.0 there.0).1 in
          (omega (arith, at, lt, known), ap (has_child parents) at ∙ not-true (has_child parents u.0) there.1)
    ]

module _ (changes_max versions_max : ℕ) (room : 128 ≤ versions_max) where
  -- a change that is drawn is accepted, leaves a tree that grows, and drops no version
  abbrev Accepted : Parents → Marks → ℕ → Change → Type 0
  Accepted parents marks n change = (is_accepted changes_max versions_max parents marks n change ≡ true) × Grows (tree_after parents change) × (none_dropped (marks_after marks change) ≡ true)

  below_max : (n : ℕ) → n < changes_max → not (eqb n changes_max) ≡ true
  below_max n lt = grind (arith, nat_tests)

  module _ (parents : Parents) (marks : Marks) (living : none_dropped marks ≡ true) (n : ℕ) (grows : Grows parents) (left : n < changes_max) where
    clone_accepted : (v : ℕ) → v < length parents → ltb (length parents) 128 ≡ true → Accepted parents marks n (Clone v)
    clone_accepted v known few =
        let less : length parents < 128 = ltb-true (length parents) 128 few in
        let free : not (eqb (length parents) versions_max) ≡ true = grind (arith, nat_tests) in
        (and_from _ _ (and_from _ _ (there_made parents marks living v ∙ lt-ltb v (length parents) known) free) (below_max n left), grown parents v grows known, none_pushed marks living)

    leaf_accepted : (v : ℕ) → v < length parents → has_child parents v ≡ false → takes_updates parents marks v && not (eqb n changes_max) ≡ true
    leaf_accepted v known none =
        and_from _ _ (open_made parents marks living v ∙ and_from _ _ (lt-ltb v (length parents) known) (ap not none)) (below_max n left)

    update_accepted : (i p v r : ℕ) → v < length parents → has_child parents v ≡ false → Accepted parents marks n (drawn_update i p v r)
    update_accepted i p v r known none = by_kind (leb 2 p && leb p 9)
      where
        by_kind : (b : Bool) → Accepted parents marks n (cond b (Delete v (drawn_key r)) (Put v (drawn_key r) (decimal i)))
        by_kind true = (leaf_accepted v known none, grows, living)
        by_kind false = (leaf_accepted v known none, grows, living)

    change_accepted : (i p q r : ℕ) → Accepted parents marks n (drawn_change parents i p q r)
    change_accepted i p q r = by_draw (eqb p 0) (eqb p 1) (ltb (length parents) 128) refl
      where
        known : q % length parents < length parents
        known = mod-lt q grows.some

        by_draw : (zero' one few : Bool) → ltb (length parents) 128 ≡ few
            → Accepted parents marks n (cond (zero' && few) (Clone (q % length parents)) (cond (one && few) (Clone (length parents - 1)) (drawn_update i p (leaf_from parents (q % length parents)) r)))
        by_draw true one true is = clone_accepted (q % length parents) known is
        by_draw false true true is = clone_accepted (length parents - 1) (omega (arith, grows.some)) is
        by_draw false false true is = let v = leaf parents (q % length parents) grows known in update_accepted i p (leaf_from parents (q % length parents)) r v.0 v.1
        by_draw true true false is = let v = leaf parents (q % length parents) grows known in update_accepted i p (leaf_from parents (q % length parents)) r v.0 v.1
        by_draw true false false is = let v = leaf parents (q % length parents) grows known in update_accepted i p (leaf_from parents (q % length parents)) r v.0 v.1
        by_draw false true false is = let v = leaf parents (q % length parents) grows known in update_accepted i p (leaf_from parents (q % length parents)) r v.0 v.1
        by_draw false false false is = let v = leaf parents (q % length parents) grows known in update_accepted i p (leaf_from parents (q % length parents)) r v.0 v.1

  all_accepted : (count i state n : ℕ) (parents : Parents) (marks : Marks) → none_dropped marks ≡ true → Grows parents → n + count ≤ changes_max → are_accepted changes_max versions_max parents marks n (changes_from count i state parents) ≡ true
  unfolding changes_from
  all_accepted zero i state n parents marks living grows le = refl
  all_accepted (suc count) i state n parents marks living grows le =
      let third : ℕ = next_draw (next_draw (next_draw state)) in
      let change : Change = drawn_change parents i (drawn (next_draw state) % 64) (drawn (next_draw (next_draw state))) (drawn third % 1000) in
      let first = change_accepted parents marks living n grows (omega (arith, le)) i (drawn (next_draw state) % 64) (drawn (next_draw (next_draw state))) (drawn third % 1000) in
      and_from (is_accepted changes_max versions_max parents marks n change) (are_accepted changes_max versions_max (tree_after parents change) (marks_after marks change) (suc n) (changes_from count (suc i) third (tree_after parents change)))
      first.0 (all_accepted count (suc i) third (suc n) (tree_after parents change) (marks_after marks change) first.2 first.1 (omega (arith, le)))

pub accepted : (seed count changes_max versions_max : ℕ) → count ≤ changes_max → 128 ≤ versions_max → are_accepted changes_max versions_max (None ∷ []) (false ∷ []) 0 (workload_changes seed count) ≡ true
accepted seed count changes_max versions_max le room =
    all_accepted changes_max versions_max room count 1 seed 0 (None ∷ []) (false ∷ []) refl (record { some = omega arith; newer = λ v is. absurd (true≢false (sym is)) }) (omega (arith, le))
