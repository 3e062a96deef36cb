-- The same entries are live of two sets just where as many are, and they weigh the same.
use Rattle.std.proofs.Common.{◌≡◌, ◌≤◌, ℕ, suc, Bool, true, false, cond, eqb, ◌&&◌, ◌⊎◌, inl, inr, List, [], ◌∷◌, length, refl, sym, ap, ◌∙◌, subst, arith, true≢false}
use Rattle.std.specs.List.{list_all, sum_by}
use Rattle.std.proofs.lemmas.Bool.{eqb-true, eq-eqb, and_parts, and_from, cases_Bool, cases_lt}
use Rattle.std.proofs.lemmas.List.Sums.{sum_by-cons}
use Rattle.strat_base.specs.Tree.{Parents, IsTree}
use Rattle.strat_base.specs.Entries.{Entry, is_at, is_single, holds_entry, are_same}
use Rattle.def_state.specs.Live.{is_live, live}
use Rattle.strat_base.proofs.ListFacts.{Among, all_at, all_from, find_none, among_filter, filter_among}
use Rattle.strat_base.proofs.EntryLemmas.{at_key_version, held_among, among_held, single_same}
use Rattle.def_state.proofs.LiveLemmas.{deciding_found, deciding_some, decides_live, live_on_path, live_few, live_one, single_filter}
use Rattle.def_split.proofs.ListLemmas.{bool_same}
use Rattle.def_split.proofs.CountedLemmas.{sum_same}
use Rattle.def_promote.proofs.UnionLemmas.{single_fits}
use Rattle.def_check.specs.Weights.{weight_of, weighs_same}
use Rattle.def_check.proofs.SumLemmas.{matched_le, matched_all}

-- an entry weighs one more than its version where it is one of others, and else nothing
weight_among : List Entry → Entry → ℕ
weight_among others e = cond (holds_entry others e) (suc e.version) 0

weight_at : Parents → List Entry → List Entry → ℕ → ℕ
weight_at parents others entries v = sum_by (weight_among others) (live parents entries v)

equal_weights : Parents → List Entry → List Entry → ℕ → Bool
equal_weights parents others entries v =
    eqb (length (live parents entries v)) (length (live parents others v)) && eqb (weight_at parents others entries v) (weight_at parents others others v)

pub sum_ones : (xs : List Entry) → sum_by (λ e. 1) xs ≡ length xs
sum_ones [] = refl
sum_ones (x ∷ xs) = let rest = sum_ones xs in let whole = sum_by-cons (λ (e : Entry). 1) x xs in omega (arith, rest, whole)

module _ (parents : Parents) (tree : IsTree parents) (others entries : List Entry) (one : is_single others ≡ true) (two : is_single entries ≡ true) (v : ℕ) where
  there : List Entry
  there = live parents others v

  here : List Entry
  here = live parents entries v

  w : Entry → ℕ
  w = weight_among others

  -- what is live of the one is live of the other
  Inside : List Entry → List Entry → Type 0
  Inside xs ys = (e : Entry) → Among e xs → Among e ys

  same_weights : are_same here there ≡ true → equal_weights parents others entries v ≡ true
  unfolding here there w equal_weights weight_at Inside
  same_weights same =
      let halves = and_parts (list_all (holds_entry (live parents others v)) (live parents entries v)) (list_all (holds_entry (live parents entries v)) (live parents others v)) same in
      let to : Inside (live parents entries v) (live parents others v) = λ e among. held_among (live parents others v) e (all_at (holds_entry (live parents others v)) e (live parents entries v) halves.0 among) in
      let back : Inside (live parents others v) (live parents entries v) = λ e among. held_among (live parents entries v) e (all_at (holds_entry (live parents entries v)) e (live parents others v) halves.1 among) in
      let few = single_fits (live parents entries v) (live parents others v) (single_filter (is_live parents entries v) entries two) to in
      let more = single_fits (live parents others v) (live parents entries v) (single_filter (is_live parents others v) others one) back in
      let low = matched_le (weight_among others) (live parents others v) (live parents entries v) (λ key. live_few parents tree others key v one) (λ key. live_few parents tree entries key v two)
      (λ x among. inr (x, to x among, refl, omega arith)) in
      let high = matched_le (weight_among others) (live parents entries v) (live parents others v) (λ key. live_few parents tree entries key v two) (λ key. live_few parents tree others key v one)
      (λ x among. inr (x, back x among, refl, omega arith)) in
      and_from (eqb (length (live parents entries v)) (length (live parents others v))) (eqb (weight_at parents others entries v) (weight_at parents others others v))
      (eq-eqb (length (live parents entries v)) (length (live parents others v)) (omega (arith, few, more)))
      (eq-eqb (weight_at parents others entries v) (weight_at parents others others v) (omega (arith, low, high)))

  held_weight : (e : Entry) → Among e others → w e ≡ suc e.version
  unfolding w weight_among
  held_weight e among = ap (λ (b : Bool). cond b (suc e.version) 0) (among_held others e among)

  no_weight : (e : Entry) → holds_entry others e ≡ false → w e ≡ 0
  unfolding w weight_among
  no_weight e none = ap (λ (b : Bool). cond b (suc e.version) 0) none

  -- an entry of the one that is live has one of its key of the other that weighs as much, or it weighs nothing
  matches : (x : Entry) → Among x here → (w x ≡ 0) ⊎ ((y : Entry) × Among y there × (y.key ≡ x.key) × (w x ≤ w y))
  unfolding here there w weight_among
  matches x among =
      let kept = filter_among (is_live parents entries v) entries x among in
      elim (cases_Bool (holds_entry others x)) [
        | inr no' ↦ inl (ap (λ (b : Bool). cond b (suc x.version) 0) no')
        | inl held ↦
            let inside = held_among others x held in
            let on = live_on_path parents tree entries v x kept.1 in
            let found = deciding_found parents tree others x.key v x inside refl on in
            let d = found.0 in
            let decides = deciding_some parents tree others x.key v d found.1 in
            let lives = among_filter (is_live parents others v) others d decides.among (decides_live parents tree others x.key v d decides) in
            let mine = held_weight x inside in
            let its = held_weight d decides.among in
            elim (cases_lt d.version x.version) [
              | inl less ↦ absurd (true≢false (sym (at_key_version x.key x.version x refl refl) ∙ find_none (is_at x.key x.version) others x (decides.nearest x.version on less) inside))
              | inr most ↦ inr (d, lives, decides.of_key, omega (arith, mine, its, most))
            ]
      ]

  weights_same : equal_weights parents others entries v ≡ true → are_same here there ≡ true
  unfolding here there w equal_weights weight_at Inside
  weights_same equal =
      let halves = and_parts (eqb (length (live parents entries v)) (length (live parents others v))) (eqb (weight_at parents others entries v) (weight_at parents others others v)) equal in
      let size : length (live parents entries v) ≡ length (live parents others v) = eqb-true (length (live parents entries v)) (length (live parents others v)) halves.0 in
      let weight : weight_at parents others entries v ≡ weight_at parents others others v = eqb-true (weight_at parents others entries v) (weight_at parents others others v) halves.1 in
      let back : Inside (live parents others v) (live parents entries v) = λ y among.
      let its = filter_among (is_live parents others v) others y among in
      let found = matched_all (weight_among others) (live parents others v) (live parents entries v) (λ key. live_few parents tree others key v one) (λ key. live_few parents tree entries key v two)
      matches (λ z a. let n = held_weight z (filter_among (is_live parents others v) others z a).0 in omega (arith, n)) weight y among in
      let heavy = held_weight y its.0 in
      let x = found.0 in
      elim (cases_Bool (holds_entry others x)) [
        | inr no' ↦ let light : w x ≡ 0 = no_weight x no' in let equal' : w x ≡ w y = found.3 in absurd (omega (arith, light, heavy, equal'))
        | inl held ↦
            let mine : w x ≡ suc x.version = held_weight x (held_among others x held) in
            let equal' : w x ≡ w y = found.3 in
            let version : x.version ≡ y.version = omega (arith, mine, heavy, equal') in
            let same = single_same others y x one its.0 (held_among others x held) (at_key_version y.key y.version x found.2 version) in
            subst (λ (e : Entry). Among e (live parents entries v)) (sym same) found.1
      ] in
      let ones = sum_ones (live parents entries v) in
      let twos = sum_ones (live parents others v) in
      let to : Inside (live parents entries v) (live parents others v) = λ x among.
      let found = matched_all (λ e. 1) (live parents entries v) (live parents others v) (λ key. live_few parents tree entries key v two) (λ key. live_few parents tree others key v one)
      (λ y a. inr (y, back y a, refl, omega arith)) (λ y a. omega arith) (omega (arith, ones, twos, size)) x among in
      let y = found.0 in
      let first = filter_among (is_live parents entries v) entries x among in
      let second = filter_among (is_live parents entries v) entries y (back y found.1) in
      let same = live_one parents tree entries v two x y first.0 second.0 first.1 second.1 (sym found.2) in
      subst (λ (e : Entry). Among e (live parents others v)) (sym same) found.1 in
      and_from (list_all (holds_entry (live parents others v)) (live parents entries v)) (list_all (holds_entry (live parents entries v)) (live parents others v))
      (all_from (holds_entry (live parents others v)) (live parents entries v) (λ e among. among_held (live parents others v) e (to e among)))
      (all_from (holds_entry (live parents entries v)) (live parents others v) (λ e among. among_held (live parents entries v) e (back e among)))

  -- where all that is live of the one is of the other, both weigh as their versions say
  plain_here : list_all (holds_entry others) here ≡ true → weight_at parents others entries v ≡ sum_by weight_of here
  unfolding here weight_at w
  plain_here all = sum_same (weight_among others) weight_of (live parents entries v) (λ e among. held_weight e (held_among others e (all_at (holds_entry others) e (live parents entries v) all among)))

  plain_there : weight_at parents others others v ≡ sum_by weight_of there
  unfolding there weight_at w
  plain_there = sum_same (weight_among others) weight_of (live parents others v) (λ e among. held_weight e (filter_among (is_live parents others v) others e among).0)

  all_held : are_same here there ≡ true → list_all (holds_entry others) here ≡ true
  unfolding here there
  all_held same =
      let halves = and_parts (list_all (holds_entry (live parents others v)) (live parents entries v)) (list_all (holds_entry (live parents entries v)) (live parents others v)) same in
      all_from (holds_entry others) (live parents entries v) (λ e among.
      let lives = held_among (live parents others v) e (all_at (holds_entry (live parents others v)) e (live parents entries v) halves.0 among) in
      among_held others e (filter_among (is_live parents others v) others e lives).0)

  to_weights : are_same here there ≡ true → weighs_same parents others entries v ≡ true
  unfolding here there equal_weights
  to_weights same =
      let all = all_held same in
      let halves = and_parts (eqb (length (live parents entries v)) (length (live parents others v))) (eqb (weight_at parents others entries v) (weight_at parents others others v)) (same_weights same) in
      let weight : weight_at parents others entries v ≡ weight_at parents others others v = eqb-true (weight_at parents others entries v) (weight_at parents others others v) halves.1 in
      and_from (list_all (holds_entry others) (live parents entries v) && eqb (length (live parents entries v)) (length (live parents others v)))
      (eqb (sum_by weight_of (live parents entries v)) (sum_by weight_of (live parents others v)))
      (and_from (list_all (holds_entry others) (live parents entries v)) (eqb (length (live parents entries v)) (length (live parents others v))) all halves.0)
      (eq-eqb (sum_by weight_of (live parents entries v)) (sum_by weight_of (live parents others v)) (sym (plain_here all) ∙ weight ∙ plain_there))

  from_weights : weighs_same parents others entries v ≡ true → are_same here there ≡ true
  unfolding here there equal_weights
  from_weights equal =
      let outer = and_parts (list_all (holds_entry others) (live parents entries v) && eqb (length (live parents entries v)) (length (live parents others v)))
      (eqb (sum_by weight_of (live parents entries v)) (sum_by weight_of (live parents others v))) equal in
      let inner = and_parts (list_all (holds_entry others) (live parents entries v)) (eqb (length (live parents entries v)) (length (live parents others v))) outer.0 in
      let sums : sum_by weight_of (live parents entries v) ≡ sum_by weight_of (live parents others v) = eqb-true (sum_by weight_of (live parents entries v)) (sum_by weight_of (live parents others v)) outer.1 in
      weights_same (and_from (eqb (length (live parents entries v)) (length (live parents others v))) (eqb (weight_at parents others entries v) (weight_at parents others others v)) inner.1
      (eq-eqb (weight_at parents others entries v) (weight_at parents others others v) (plain_here inner.0 ∙ sums ∙ sym plain_there)))

  pub told_by_weights : are_same (live parents entries v) (live parents others v) ≡ weighs_same parents others entries v
  unfolding here there
  told_by_weights = bool_same (are_same (live parents entries v) (live parents others v)) (weighs_same parents others entries v) to_weights from_weights
