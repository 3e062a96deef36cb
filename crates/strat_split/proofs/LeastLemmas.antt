-- The least numbers of live keys.
use Rattle.std.proofs.Common.{◌≡◌, ◌<◌, ◌≤◌, ◌+◌, ℕ, ◌⊎◌, inl, inr, List, length, get_or, set, min, None, refl, sym, ap, ◌∙◌, subst, arith}
use Rattle.std.proofs.lemmas.Bool.{cases_eq, cases_lt}
use Rattle.std.proofs.lemmas.List.{get_or-set_same, get_or-set_other, length-set}
use Rattle.strat_split.specs.Placing.{nth_part, lowered, IsLowered}
use Rattle.strat_split.specs.declared.parts.Part.{Part}

pub lowered_none : (labels live : List ℕ) (parts : List Part) → IsLowered labels live 0 parts parts
lowered_none labels live parts = record {
  len = refl;
  same = λ q lt. (refl, refl, refl);
  attained = λ q lt. inl refl;
  low = λ v lt. absurd (omega arith);
}

-- what holds of each part once one of them is changed
part_set : (P : ℕ → Part → Type 0) (parts : List Part) (q : ℕ) (part : Part) → ((r : ℕ) → r < length parts → (r ≡ q → ⊥) → P r (nth_part parts r)) → (q < length parts → P q part) → (r : ℕ) → r < length parts → P r (nth_part (set parts q part) r)
part_set P parts q part other here r lt = elim (cases_eq r q) [
  | inl same ↦
      let Q : Part → Type 0 = P q in
      subst (λ (s : ℕ). P s (nth_part (set parts q part) s)) (sym same) (subst Q (sym (get_or-set_same parts q part (record { above = None; leads = 0; entries = 0; least = 0 }) (omega (arith, same)))) (here (omega (arith, same))))
  | inr apart ↦
      let Q : Part → Type 0 = P r in
      subst Q (sym (get_or-set_other parts q r part (record { above = None; leads = 0; entries = 0; least = 0 }) apart)) (other r lt apart)
]

module _ (labels live : List ℕ) (v q : ℕ) (before now : List Part) (is : IsLowered labels live v before now) (q_is : q ≡ get_or labels v 0) where
  pub lowered_more : IsLowered labels live (v + 1) before (set now q (lowered (nth_part now q) (get_or live v 0)))
  lowered_more = record {
    len = length-set now q (lowered (nth_part now q) (get_or live v 0)) ∙ is.len;
    same = λ r lt. part_set (λ r x. (x.above ≡ (nth_part before r).above) × (x.leads ≡ (nth_part before r).leads) × (x.entries ≡ (nth_part before r).entries)) now q (lowered (nth_part now q) (get_or live v 0))
        (λ r under apart. is.same r (omega (arith, is.len))) (λ under. is.same q (omega (arith, is.len))) r (omega (arith, is.len));
    attained = λ r lt. part_set (λ r x. (x.least ≡ (nth_part before r).least) ⊎ ((u : ℕ) × (u < v + 1) × (get_or labels u 0 ≡ r) × (get_or live u 0 ≡ x.least))) now q (lowered (nth_part now q) (get_or live v 0))
        (λ r under apart. elim (is.attained r (omega (arith, is.len))) [ inl old ↦ inl old | inr found ↦ inr (found.0, omega (arith, found.1), found.2, found.3) ])
        (λ under. elim (cases_lt (get_or live v 0) (nth_part now q).least) [
          | inl less ↦ inr (v, omega arith, sym q_is, omega arith)
          | inr more ↦
              let kept : min (nth_part now q).least (get_or live v 0) ≡ (nth_part now q).least = omega arith in
              elim (is.attained q (omega (arith, is.len))) [ inl old ↦ inl (kept ∙ old) | inr found ↦ inr (found.0, omega (arith, found.1), found.2, found.3 ∙ sym kept) ]
        ])
        r (omega (arith, is.len));
    low = λ u lt is_part. elim (cases_eq u v) [
      | inl here ↦
          let there : get_or labels u 0 ≡ q = ap (λ (w : ℕ). get_or labels w 0) here ∙ sym q_is in
          let each : (r : ℕ) → r < length now → r ≡ q → (nth_part (set now q (lowered (nth_part now q) (get_or live v 0))) r).least ≤ get_or live v 0 = part_set (λ r x. r ≡ q → x.least ≤ get_or live v 0) now q (lowered (nth_part now q) (get_or live v 0)) (λ r under apart e. absurd (apart e)) (λ under e. omega arith) in
          let le : (nth_part (set now q (lowered (nth_part now q) (get_or live v 0))) (get_or labels u 0)).least ≤ get_or live v 0 = each (get_or labels u 0) (omega (arith, is.len)) there in
          subst (λ (w : ℕ). (nth_part (set now q (lowered (nth_part now q) (get_or live v 0))) (get_or labels u 0)).least ≤ get_or live w 0) (sym here) le
      | inr apart ↦
          let old : (nth_part now (get_or labels u 0)).least ≤ get_or live u 0 = is.low u (omega (arith, apart)) is_part in
          let each : (r : ℕ) → r < length now → (nth_part now r).least ≤ get_or live u 0 → (nth_part (set now q (lowered (nth_part now q) (get_or live v 0))) r).least ≤ get_or live u 0 = part_set (λ r x. (nth_part now r).least ≤ get_or live u 0 → x.least ≤ get_or live u 0) now q (lowered (nth_part now q) (get_or live v 0)) (λ r under other e. e) (λ under e. omega arith) in
          each (get_or labels u 0) (omega (arith, is.len)) old
    ];
  }
