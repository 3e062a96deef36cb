-- What is counted of keys, and what is summed up of it.
use Rattle.std.proofs.Common.{◌≡◌, ◌<◌, ◌≤◌, ◌+◌, ◌-◌, ◌*◌, ◌^◌, ℕ, suc, true, eqb, ◌&&◌, min, get_or, set, inl, inr, List, [], ◌∷◌, ◌++◌, length, replicate, Option, refl, sym, ap, ◌∙◌, subst, arith}
use Rattle.std.specs.List.{list_all, sum_by, count_by}
use Rattle.std.specs.Option.{option_map_or}
use Rattle.std.proofs.lemmas.Bool.{cases_eq}
use Rattle.std.proofs.lemmas.List.{get_or-set_same, get_or-set_other, get_or-replicate, length-replicate}
use Rattle.std.proofs.lemmas.List.Sums.{sum_by_push}
use Rattle.std.proofs.lemmas.List.Folds.{list_all-append}
use Rattle.std.proofs.Math.Nat.{mul-one}
use Rattle.strat_base.specs.Order.{descends}
use Rattle.strat_base.specs.Tree.{Parents, parent_of, IsTree}
use Rattle.strat_base.proofs.ResultFacts.{option_cases}
use Rattle.strat_base.proofs.TreeLemmas.{parent_older, along_path}
use Rattle.def_state.specs.Counted.{own_at}
use Rattle.strat_tree.specs.Preorder.{Numbering, IsPreorder}
use Rattle.strat_check.specs.Sightings.{Sightings, versions_added, weight_at, weight_lost, lost_sum, IsSighting, IsSighted}
use Rattle.strat_check.specs.Sums.{HaveGrown, AreWeighed, AreSumsOf, sum_above, greatest}
use Rattle.strat_check.proofs.WeighLemmas.{keys_weighed, root_step, up_step, own_le, at_bound, lost_bound}

light_one : (u : ℕ) → u < 16384 → 1 ≤ 16384
light_one u lt = omega arith

light_suc : (n u : ℕ) → n ≤ 16384 → u < n → suc u ≤ 16384
light_suc n u few lt = omega arith

-- no key yet
pub none_sighted : (parents : Parents) (n : ℕ) (s : Sightings) → s.own ≡ replicate n 0 → s.hidden ≡ replicate n 0 → s.hidden_weight ≡ replicate n 0 → IsPreorder (length s.own) parents s.order
    → IsSighting parents [] s
none_sighted parents n s own hidden weights placed =
    let size : length s.own ≡ n = ap (λ (ns : List ℕ). length ns) own ∙ length-replicate n 0 in
    record {
      descending = refl;
      own = λ v lt. ap (λ (ns : List ℕ). get_or ns v 0) own ∙ get_or-replicate n v 0 0 (omega (arith, size, lt));
      hidden = λ v lt. ap (λ (ns : List ℕ). get_or ns v 0) hidden ∙ get_or-replicate n v 0 0 (omega (arith, size, lt));
      hidden_weight = λ v lt. ap (λ (ns : List ℕ). get_or ns v 0) weights ∙ get_or-replicate n v 0 0 (omega (arith, size, lt));
      placed = placed;
    }

-- one more key
pub sight_added : (parents : Parents) (tree : IsTree parents) (groups : List (List ℕ)) (versions : List ℕ) (s : Sightings) (own hidden weights : List ℕ) (order : Numbering)
    → length parents ≤ 16384 → length s.own ≡ length parents → length own ≡ length s.own → length s.hidden ≡ length s.own → length s.hidden_weight ≡ length s.own
    → descends versions ≡ true → IsSighting parents groups s → versions_added (groups ++ versions ∷ []) ≤ 2 ^ 48
    → HaveGrown (λ v. count_by (λ u. eqb u v) versions) s.own own
    → HaveGrown (λ v. weight_lost parents (λ u. 1) v versions) s.hidden hidden
    → HaveGrown (λ v. weight_lost parents suc v versions) s.hidden_weight weights
    → IsPreorder (length s.own) parents order
    → IsSighting parents (groups ++ versions ∷ []) (record { own = own; hidden = hidden; hidden_weight = weights; seen = s.seen; weight = s.weight; order = order })
sight_added parents tree groups versions s own hidden weights order few known own_len hidden_len weights_len down sighting bound own_grown hidden_grown weights_grown placed =
    record {
      descending = list_all-append descends groups (versions ∷ []) ∙ (λ i. sighting.descending i && (down i && true));
      own = λ v lt.
          let was = sighting.own v (omega (arith, own_len, lt)) in
          let whole = sum_by_push (λ us. count_by (λ u. eqb u v) us) groups versions in
          let le = own_le (groups ++ versions ∷ []) v in
          let is = own_grown v (omega (arith, own_len, lt)) (omega (arith, was, whole, le, bound)) in
          omega (arith, was, whole, is);
      hidden = λ v lt.
          let was = sighting.hidden v (omega (arith, own_len, lt)) in
          let whole = sum_by_push (weight_lost parents (λ u. 1) v) groups versions in
          let le = lost_bound parents tree (λ u. 1) (length parents) (λ u under. light_one u (omega (arith, few, under))) (groups ++ versions ∷ []) v (omega (arith, known, own_len, lt)) in
          let is = hidden_grown v (omega (arith, hidden_len, own_len, lt)) (omega (arith, was, whole, le, bound)) in
          omega (arith, was, whole, is);
      hidden_weight = λ v lt.
          let was = sighting.hidden_weight v (omega (arith, own_len, lt)) in
          let whole = sum_by_push (weight_lost parents suc v) groups versions in
          let le = lost_bound parents tree suc (length parents) (λ u under. light_suc (length parents) u few under) (groups ++ versions ∷ []) v (omega (arith, known, own_len, lt)) in
          let is = weights_grown v (omega (arith, weights_len, own_len, lt)) (omega (arith, was, whole, le, bound)) in
          omega (arith, was, whole, is);
      placed = subst (λ (m : ℕ). IsPreorder m parents order) (sym own_len) placed;
    }

-- one more version is summed: those below it were, and the others still have what they gain
pub record AreSummedBelow (parents : Parents) (gained lost sums : List ℕ) (n : ℕ) : Type 0 where
  pub done : AreSumsOf parents gained lost sums n
  pub rest : (v : ℕ) → n ≤ v → get_or sums v 0 ≡ get_or gained v 0

pub summed_none : (parents : Parents) (gained lost : List ℕ) → AreSummedBelow parents gained lost gained 0
summed_none parents gained lost = record { done = λ v lt. absurd (omega arith); rest = λ v le. refl }

module _ (parents : Parents) (tree : IsTree parents) where
  above_kept : (sums : List ℕ) (v n w : ℕ) → w ≤ v → sum_above parents (set sums v n) w ≡ sum_above parents sums w
  above_kept sums v n w le = elim (option_cases (parent_of parents w)) [
    | inl none ↦ ap (λ (o : Option ℕ). option_map_or (λ p. get_or (set sums v n) p 0) o 0) none ∙ sym (ap (λ (o : Option ℕ). option_map_or (λ p. get_or sums p 0) o 0) none)
    | inr some ↦
        let older : some.0 < w = parent_older parents tree w some.0 some.1 in
        ap (λ (o : Option ℕ). option_map_or (λ p. get_or (set sums v n) p 0) o 0) some.1 ∙ get_or-set_other sums v some.0 n 0 (λ e. omega arith) ∙ sym (ap (λ (o : Option ℕ). option_map_or (λ p. get_or sums p 0) o 0) some.1)
  ]

  pub summed_more : (gained lost sums : List ℕ) (v n : ℕ) → v < length sums → AreSummedBelow parents gained lost sums v → n ≡ min (sum_above parents sums v + get_or sums v 0) greatest - get_or lost v 0
      → AreSummedBelow parents gained lost (set sums v n) (v + 1)
  summed_more gained lost sums v n lt below is =
      let here : n ≡ min (sum_above parents sums v + get_or gained v 0) greatest - get_or lost v 0 = is ∙ ap (λ (k : ℕ). min (sum_above parents sums v + k) greatest - get_or lost v 0) (below.rest v (omega arith)) in
      record {
        done = λ u under.
            elim (cases_eq u v) [
              | inl same ↦
                  subst (λ (w : ℕ). get_or (set sums v n) w 0 ≡ min (sum_above parents (set sums v n) w + get_or gained w 0) greatest - get_or lost w 0) (sym same)
                  (get_or-set_same sums v n 0 lt ∙ here ∙ ap (λ (k : ℕ). min (k + get_or gained v 0) greatest - get_or lost v 0) (sym (above_kept sums v n v (omega arith))))
              | inr apart ↦
                  get_or-set_other sums v u n 0 apart ∙ below.done u (omega arith)
                  ∙ ap (λ (k : ℕ). min (k + get_or gained u 0) greatest - get_or lost u 0) (sym (above_kept sums v n u (omega arith)))
            ];
        rest = λ u le. get_or-set_other sums v u n 0 (λ same. omega (arith, same, le)) ∙ below.rest u (omega arith);
      }

  -- sums of exact numbers are exact
  module _ (weight : ℕ → ℕ) (n : ℕ) (light : (u : ℕ) → u < n → weight u ≤ 16384) (groups : List (List ℕ)) (down : list_all descends groups ≡ true) (bound : versions_added groups ≤ 2 ^ 48) where
    pub summed_right : (gained lost sums : List ℕ) → AreSumsOf parents gained lost sums n → ((v : ℕ) → v < n → get_or gained v 0 ≡ own_at groups v * weight v)
        → ((v : ℕ) → v < n → get_or lost v 0 ≡ lost_sum parents weight groups v) → (v : ℕ) → v < n → get_or sums v 0 ≡ sum_by (weight_at parents weight v) groups
    summed_right gained lost sums summed gains losses = along_path parents tree (λ v. v < n → get_or sums v 0 ≡ sum_by (weight_at parents weight v) groups)
        (λ v none lt.
        let above : sum_above parents sums v ≡ 0 = ap (λ (o : Option ℕ). option_map_or (λ p. get_or sums p 0) o 0) none in
        let is = summed v lt in
        let gain = gains v lt in
        let loss = losses v lt in
        let step' = root_step parents tree weight groups v down none in
        let step : sum_by (weight_at parents weight v) groups + lost_sum parents weight groups v ≡ 0 + own_at groups v * weight v = omega (arith, step') in
        let small = at_bound parents tree weight n light groups v lt in
        let less = lost_bound parents tree weight n light groups v lt in
        settled (sum_above parents sums v) (get_or gained v 0) (get_or lost v 0) (get_or sums v 0) (sum_by (weight_at parents weight v) groups) 0 (lost_sum parents weight groups v) (own_at groups v * weight v) is above gain loss step (omega (arith, small, less, bound)))
        (λ v p some ih lt.
        let older = parent_older parents tree v p some in
        let up = ih (omega (arith, older, lt)) in
        let above : sum_above parents sums v ≡ get_or sums p 0 = ap (λ (o : Option ℕ). option_map_or (λ q. get_or sums q 0) o 0) some in
        let is = summed v lt in
        let gain = gains v lt in
        let loss = losses v lt in
        let step = up_step parents tree weight groups v p down some in
        let small = at_bound parents tree weight n light groups v lt in
        let less = lost_bound parents tree weight n light groups v lt in
        settled (sum_above parents sums v) (get_or gained v 0) (get_or lost v 0) (get_or sums v 0) (sum_by (weight_at parents weight v) groups) (sum_by (weight_at parents weight p) groups) (lost_sum parents weight groups v) (own_at groups v * weight v) is (above ∙ up) gain loss step (omega (arith, small, less, bound)))
      where
        settled : (above gain loss now at up lost own : ℕ) → now ≡ min (above + gain) greatest - loss → above ≡ up → gain ≡ own → loss ≡ lost → at + lost ≡ up + own → at + lost ≤ greatest → now ≡ at
        settled above gain loss now at up lost own is a b c step fits = omega (arith, is, a, b, c, step, fits)

    -- and what a version gains is a number of 64 bits
    pub gain_fits : (v : ℕ) → v < n → own_at groups v * weight v ≤ greatest
    gain_fits v lt =
        let small = at_bound parents tree weight n light groups v lt in
        let less = lost_bound parents tree weight n light groups v lt in
        elim (option_cases (parent_of parents v)) [
          | inl none ↦ let step = root_step parents tree weight groups v down none in omega (arith, step, small, less, bound)
          | inr some ↦ let step = up_step parents tree weight groups v some.0 down some.1 in omega (arith, step, small, less, bound)
        ]

  pub sight_finished : (groups : List (List ℕ)) (s : Sightings) (seen gains weight : List ℕ)
      → length parents ≤ 16384 → length s.own ≡ length parents → IsSighting parents groups s → versions_added groups ≤ 2 ^ 48
      → AreSumsOf parents s.own s.hidden seen (length s.own) → AreWeighed s.own gains (length s.own) → AreSumsOf parents gains s.hidden_weight weight (length s.own)
      → IsSighted parents groups (record { own = s.own; hidden = s.hidden; hidden_weight = s.hidden_weight; seen = seen; weight = weight; order = s.order })
  sight_finished groups s seen gains weight few known sighting bound seen_summed weighed weight_summed =
      record {
        own = sighting.own;
        seen = λ v lt.
            summed_right (λ u. 1) (length s.own) (λ u under. light_one u (omega (arith, few, known, under))) groups sighting.descending bound s.own s.hidden seen seen_summed
            (λ u under. sighting.own u under ∙ sym (mul-one (own_at groups u))) sighting.hidden v lt
            ∙ keys_weighed parents groups v;
        weight = λ v lt.
            let light : (u : ℕ) → u < length s.own → suc u ≤ 16384 = λ u under. light_suc (length s.own) u (omega (arith, few, known)) under in
            summed_right suc (length s.own) light groups sighting.descending bound gains s.hidden_weight weight weight_summed
            (λ u under. gain_is groups s gains sighting weighed u under (gain_fits suc (length s.own) light groups sighting.descending bound u under)) sighting.hidden_weight v lt;
      }
    where
      gain_is : (groups : List (List ℕ)) (s : Sightings) (gains : List ℕ) → IsSighting parents groups s → AreWeighed s.own gains (length s.own) → (u : ℕ) → u < length s.own → own_at groups u * suc u ≤ greatest → get_or gains u 0 ≡ own_at groups u * suc u
      gain_is groups s gains sighting weighed u under fits =
          let own : get_or s.own u 0 ≡ own_at groups u = sighting.own u under in
          let one : u + 1 ≡ suc u = omega arith in
          let product : get_or s.own u 0 * (u + 1) ≡ own_at groups u * suc u = λ i. own i * one i in
          weighed u under (omega (arith, product, fits)) ∙ product
