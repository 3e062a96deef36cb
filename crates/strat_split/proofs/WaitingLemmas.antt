-- Numbers that descend and are those that pass a test, as parts wait.
use Rattle.std.proofs.Common.{◌≡◌, ◌<◌, ◌≤◌, ◌+◌, ◌-◌, ℕ, zero, suc, Bool, true, false, eqb, ltb, ◌||◌, ◌⊎◌, inl, inr, List, [], ◌∷◌, ◌++◌, length, get_or, refl, sym, ap, ◌∙◌, arith, true≢false, length-append}
use Rattle.std.specs.List.{insert}
use Rattle.std.specs.List.Sorted.{IsPartitionedBy, IsPartitionPoint}
use Rattle.std.proofs.lemmas.Bool.{ltb-true, ltb-false, lt-ltb, eqb-true, eq-eqb, or_cases, or_left, or_right, false_from_ne_true, cases_eq, cases_lt, cases_order}
use Rattle.std.proofs.lemmas.List.{get_or_append_left}
use Rattle.std.proofs.Math.Seq.{get_or-append_seam}
use Rattle.std.proofs.lemmas.List.Edits.{length-insert, get_or-insert_at, get_or-insert_below, get_or-insert_above}
use Rattle.strat_split.specs.Waiting.{IsListed, IsWaitingPlace}

-- tests that agree list the same
pub listed_same : (test other : ℕ → Bool) (numbers : List ℕ) → ((q : ℕ) → test q ≡ other q) → IsListed test numbers → IsListed other numbers
listed_same test other numbers same listed = record {
  descends = listed.descends;
  each = λ k lt. sym (same (get_or numbers k 0)) ∙ listed.each k lt;
  all = λ q passes. listed.all q (same q ∙ passes);
}

module _ (test : ℕ → Bool) (q : ℕ) (off : test q ≡ false) (numbers : List ℕ) (listed : IsListed test numbers) where
  apart : (k : ℕ) → k < length numbers → get_or numbers k 0 ≡ q → ⊥
  apart k lt same = true≢false (sym (listed.each k lt) ∙ ap test same ∙ off)

  -- the greater numbers stand first
  pub parted : IsPartitionedBy (λ r. ltb q r) numbers
  parted i j d le lt e = elim (cases_eq i j) [
    | inl same ↦ ap (λ (k : ℕ). ltb q (get_or numbers k d)) same ∙ e
    | inr other ↦
        let more : get_or numbers j 0 < get_or numbers i 0 = listed.descends i j (omega arith) lt in
        let at_j : get_or numbers j d ≡ get_or numbers j 0 = read numbers j d lt in
        let at_i : get_or numbers i d ≡ get_or numbers i 0 = read numbers i d (omega arith) in
        let up : q < get_or numbers j d = ltb-true q (get_or numbers j d) e in
        lt-ltb q (get_or numbers i d) (omega arith)
  ]
    where
      read : (xs : List ℕ) (k d : ℕ) → k < length xs → get_or xs k d ≡ get_or xs k 0
      read [] k d lt = absurd (omega arith)
      read (x ∷ xs) zero d lt = refl
      read (x ∷ xs) (suc k) d lt = read xs k d (omega arith)

  pub place_from_point : (at : ℕ) → at ≤ length numbers → IsPartitionPoint (λ r. ltb q r ≡ true) (λ r. ltb q r ≡ false) numbers at → IsWaitingPlace q numbers at
  place_from_point at within point = record {
    high = λ k lt. ltb-true q (get_or numbers k 0) (point.0 k 0 (omega arith) lt);
    low = λ k le lt.
        let most : get_or numbers k 0 ≤ q = ltb-false q (get_or numbers k 0) (point.1 k 0 le lt) in
        elim (cases_eq (get_or numbers k 0) q) [ inl same ↦ absurd (apart k lt same) | inr other ↦ omega arith ];
  }

  module _ (at : ℕ) (within : at ≤ length numbers) (place : IsWaitingPlace q numbers at) where
    longer : length (insert numbers at q) ≡ length numbers + 1
    longer = length-insert numbers at q within

    here : get_or (insert numbers at q) at 0 ≡ q
    here = get_or-insert_at numbers at q 0 within

    before : (k : ℕ) → k < at → get_or (insert numbers at q) k 0 ≡ get_or numbers k 0
    before k lt = get_or-insert_below numbers at q 0 k lt within

    behind : (k : ℕ) → at ≤ k → get_or (insert numbers at q) (k + 1) 0 ≡ get_or numbers k 0
    behind k le = get_or-insert_above numbers at q 0 k le within

    -- each number of the longer list is the new one or an old one
    old_or_new : (k : ℕ) → k < length numbers + 1 → (k ≡ at) ⊎ ((j : ℕ) × (j < length numbers) × (get_or (insert numbers at q) k 0 ≡ get_or numbers j 0) × (((j ≡ k) × (k < at)) ⊎ ((j + 1 ≡ k) × (at < k))))
    old_or_new k lt = elim (cases_order k at) [
      | inl same ↦ inl same
      | inr (inl less) ↦ inr (k, omega arith, before k less, inl (refl, less))
      | inr (inr more) ↦
          let e : k - 1 + 1 ≡ k = omega arith in
          inr (k - 1, omega arith, ap (λ (j : ℕ). get_or (insert numbers at q) j 0) (sym e) ∙ behind (k - 1) (omega arith), inr (e, more))
    ]

    falls : (j k : ℕ) → j < k → k < length numbers + 1 → get_or (insert numbers at q) k 0 < get_or (insert numbers at q) j 0
    falls j k less lt = elim (cases_order k at) [
      | inl same ↦
          let now_k : get_or (insert numbers at q) k 0 ≡ q = ap (λ (i : ℕ). get_or (insert numbers at q) i 0) same ∙ here in
          let now_j : get_or (insert numbers at q) j 0 ≡ get_or numbers j 0 = before j (omega arith) in
          let high : q < get_or numbers j 0 = place.high j (omega arith) in
          omega arith
      | inr (inl less_k) ↦
          let now_k : get_or (insert numbers at q) k 0 ≡ get_or numbers k 0 = before k less_k in
          let now_j : get_or (insert numbers at q) j 0 ≡ get_or numbers j 0 = before j (omega arith) in
          let down : get_or numbers k 0 < get_or numbers j 0 = listed.descends j k less (omega arith) in
          omega arith
      | inr (inr more_k) ↦
          let next : k - 1 + 1 ≡ k = omega arith in
          let now_k : get_or (insert numbers at q) k 0 ≡ get_or numbers (k - 1) 0 = ap (λ (i : ℕ). get_or (insert numbers at q) i 0) (sym next) ∙ behind (k - 1) (omega arith) in
          elim (cases_order j at) [
            | inl same ↦
                let now_j : get_or (insert numbers at q) j 0 ≡ q = ap (λ (i : ℕ). get_or (insert numbers at q) i 0) same ∙ here in
                let low : get_or numbers (k - 1) 0 < q = place.low (k - 1) (omega arith) (omega arith) in
                omega arith
            | inr (inl less_j) ↦
                let now_j : get_or (insert numbers at q) j 0 ≡ get_or numbers j 0 = before j less_j in
                let down : get_or numbers (k - 1) 0 < get_or numbers j 0 = listed.descends j (k - 1) (omega arith) (omega arith) in
                omega arith
            | inr (inr more_j) ↦
                let e : j - 1 + 1 ≡ j = omega arith in
                let now_j : get_or (insert numbers at q) j 0 ≡ get_or numbers (j - 1) 0 = ap (λ (i : ℕ). get_or (insert numbers at q) i 0) (sym e) ∙ behind (j - 1) (omega arith) in
                let down : get_or numbers (k - 1) 0 < get_or numbers (j - 1) 0 = listed.descends (j - 1) (k - 1) (omega arith) (omega arith) in
                omega arith
          ]
    ]

    pub listed_put : IsListed (λ r. test r || eqb r q) (insert numbers at q)
    listed_put = record {
      descends = λ j k less lt. falls j k less (omega (arith, longer));
      each = λ k lt. elim (old_or_new k (omega (arith, longer))) [
        | inl same ↦
            let now : get_or (insert numbers at q) k 0 ≡ q = ap (λ (i : ℕ). get_or (insert numbers at q) i 0) same ∙ here in
            or_right (test (get_or (insert numbers at q) k 0)) (eqb (get_or (insert numbers at q) k 0) q) (eq-eqb (get_or (insert numbers at q) k 0) q now)
        | inr old ↦ or_left (test (get_or (insert numbers at q) k 0)) (eqb (get_or (insert numbers at q) k 0) q) (ap test old.2 ∙ listed.each old.0 old.1)
      ];
      all = λ r passes. elim (or_cases (test r) (eqb r q) passes) [
        | inl old ↦
            let found = listed.all r old in
            elim (cases_lt found.0 at) [
              | inl less ↦ (found.0, omega (arith, longer, found.1), before found.0 less ∙ found.2)
              | inr le ↦ (found.0 + 1, omega (arith, longer, found.1), behind found.0 le ∙ found.2)
            ]
        | inr new ↦ (at, omega (arith, longer), here ∙ sym (eqb-true r q new))
      ];
    }

  -- numbers below n of which one is missing are fewer
  crowded : (n : ℕ) → q < n → ((r : ℕ) → test r ≡ true → r < n) → (k : ℕ) → k < length numbers → (q < get_or numbers k 0 → get_or numbers k 0 + k < n) × (get_or numbers k 0 < q → get_or numbers k 0 + k + 1 < n)
  crowded n lt below zero some =
      let first : get_or numbers 0 0 < n = below (get_or numbers 0 0) (listed.each 0 some) in
      (λ more. omega arith, λ less. omega arith)
  crowded n lt below (suc k) some =
      let up = crowded n lt below k (omega arith) in
      let down : get_or numbers (suc k) 0 < get_or numbers k 0 = listed.descends k (suc k) (omega arith) some in (
        λ more. let last = up.0 (omega arith) in omega arith,
        λ less. elim (cases_order (get_or numbers k 0) q) [
          | inl same ↦ absurd (apart k (omega arith) same)
          | inr (inl low) ↦ let last = up.1 low in omega arith
          | inr (inr high) ↦ let last = up.0 high in omega arith
        ],
      )

  pub listed_room : (n : ℕ) → q < n → ((r : ℕ) → test r ≡ true → r < n) → length numbers < n
  listed_room n lt below = go (length numbers) refl
    where
      go : (len : ℕ) → length numbers ≡ len → len < n
      go zero is = omega arith
      go (suc k) is =
          let last = crowded n lt below k (omega arith) in
          elim (cases_order (get_or numbers k 0) q) [
            | inl same ↦ absurd (apart k (omega arith) same)
            | inr (inl low) ↦ let bound = last.1 low in omega arith
            | inr (inr high) ↦ let bound = last.0 high in omega arith
          ]

-- the last number is the least
module _ (test : ℕ → Bool) (front : List ℕ) (q : ℕ) (listed : IsListed test (front ++ q ∷ [])) where
  at_end : get_or (front ++ q ∷ []) (length front) 0 ≡ q
  at_end = get_or-append_seam front q [] 0

  in_front : (k : ℕ) → k < length front → get_or (front ++ q ∷ []) k 0 ≡ get_or front k 0
  in_front k lt = get_or_append_left front (q ∷ []) 0 k lt

  pub last_passes : test q ≡ true
  last_passes = sym (ap test at_end) ∙ listed.each (length front) (omega (arith, length-append front (q ∷ [])))

  greater : (k : ℕ) → k < length front → q < get_or front k 0
  greater k lt =
      let down : get_or (front ++ q ∷ []) (length front) 0 < get_or (front ++ q ∷ []) k 0 = listed.descends k (length front) lt (omega (arith, length-append front (q ∷ []))) in
      omega (arith, at_end, in_front k lt)

  -- where a number that passes stands
  placed : (r : ℕ) → test r ≡ true → (r ≡ q) ⊎ ((k : ℕ) × (k < length front) × (get_or front k 0 ≡ r))
  placed r passes =
      let found = listed.all r passes in
      let many : length (front ++ q ∷ []) ≡ length front + 1 = length-append front (q ∷ []) in
      elim (cases_lt found.0 (length front)) [
        | inl less ↦ inr (found.0, less, sym (in_front found.0 less) ∙ found.2)
        | inr le ↦ let last : found.0 ≡ length front = omega (arith, found.1) in inl (sym found.2 ∙ ap (λ (i : ℕ). get_or (front ++ q ∷ []) i 0) last ∙ at_end)
      ]

  pub last_least : (r : ℕ) → r < q → test r ≡ false
  last_least r less = false_from_ne_true (test r) (λ passes. elim (placed r passes) [
    | inl same ↦ omega arith
    | inr old ↦ let more = greater old.0 old.1 in omega (arith, old.2)
  ])

  pub listed_front : (other : ℕ → Bool) → other q ≡ false → ((r : ℕ) → (r ≡ q → ⊥) → other r ≡ test r) → IsListed other front
  listed_front other off same = record {
    descends = λ j k less lt.
        let down : get_or (front ++ q ∷ []) k 0 < get_or (front ++ q ∷ []) j 0 = listed.descends j k less (omega (arith, length-append front (q ∷ []))) in
        omega (arith, in_front k lt, in_front j (omega arith));
    each = λ k lt.
        let more : q < get_or front k 0 = greater k lt in
        same (get_or front k 0) (λ e. omega arith) ∙ sym (ap test (in_front k lt)) ∙ listed.each k (omega (arith, length-append front (q ∷ [])));
    all = λ r passes. elim (cases_eq r q) [
      | inl here ↦ absurd (true≢false (sym passes ∙ ap other here ∙ off))
      | inr apart ↦ elim (placed r (sym (same r apart) ∙ passes)) [ inl here ↦ absurd (apart here) | inr old ↦ old ]
    ];
  }
