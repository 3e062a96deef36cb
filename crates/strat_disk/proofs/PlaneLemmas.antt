-- Lists as functions that go on with a default, and what writes into them do.
use Rattle.std.proofs.Common.{◌≡◌, ◌≢◌, ◌≤◌, ◌<◌, ℕ, ◌+◌, ◌-◌, Bool, true, false, List, ◌++◌, length, take, drop, get_or, set, replicate, refl, sym, ◌∙◌, ap, subst, arith, inl, inr, length-append, get_or-set_same, get_or-set_other}
use Rattle.std.proofs.lemmas.Bool.{cases_lt}
use Rattle.std.proofs.lemmas.List.{get_or_append_left, get_or-append_right, get_or_past, get_or-replicate, get_or-take, get_or-drop, length-replicate, length-take-le, take_all}
use Rattle.def_crash.specs.Image.{Image, HoldsBytes, over, patch}
use Rattle.def_crash.proofs.ImageLemmas.{below, inside, above, lies, over_below, over_inside, over_above}
use Rattle.strat_disk.specs.Medium.{Medium, shown, written, IsWhole}

-- lists that read as a medium are that medium
pub shown_is : (m : Medium) (bytes durable : List ℕ) (pending : List Bool) → ((i : ℕ) → get_or bytes i 0 ≡ m.content i)
    → ((i : ℕ) → get_or durable i 0 ≡ m.durable i) → ((i : ℕ) → get_or pending i false ≡ m.pending i) → shown bytes durable pending ≡ m
shown_is m bytes durable pending content old torn =
    λ j. record { content = λ i. content i j; durable = λ i. old i j; pending = λ i. torn i j }

-- a list written into another
pub get_or-placed : {A : Type 0} (xs ys : List A) (at : ℕ) (d : A) → at + length ys ≤ length xs → (i : ℕ)
    → get_or (take at xs ++ ys ++ drop (at + length ys) xs) i d ≡ over at (length ys) (λ k. get_or ys (k - at) d) (λ k. get_or xs k d) i
get_or-placed xs ys at d fits i =
    let front : length (take at xs) ≡ at = length-take-le at xs (omega arith) in
    let both : length (take at xs ++ ys) ≡ at + length ys = length-append (take at xs) ys ∙ ap (λ (n : ℕ). n + length ys) front in
    elim (lies at (length ys) i) [
      | below is ↦
          get_or_append_left (take at xs ++ ys) (drop (at + length ys) xs) d i (omega arith)
          ∙ get_or_append_left (take at xs) ys d i (omega arith)
          ∙ get_or-take at xs i d is
          ∙ sym (over_below at (length ys) _ (λ k. get_or xs k d) i is)
      | inside from to ↦
          get_or_append_left (take at xs ++ ys) (drop (at + length ys) xs) d i (omega arith)
          ∙ get_or-append_right (take at xs) ys at i d front from
          ∙ sym (over_inside at (length ys) (λ k. get_or ys (k - at) d) _ i from to)
      | above is ↦
          let e : at + length ys + (i - (at + length ys)) ≡ i = omega arith in
          get_or-append_right (take at xs ++ ys) (drop (at + length ys) xs) (at + length ys) i d both is
          ∙ get_or-drop (at + length ys) xs (i - (at + length ys)) d
          ∙ ap (λ (k : ℕ). get_or xs k d) e
          ∙ sym (over_above at (length ys) _ (λ k. get_or xs k d) i is)
    ]

pub get_or-marked : (xs : List Bool) (at n : ℕ) → at + n ≤ length xs → (i : ℕ)
    → get_or (take at xs ++ replicate n true ++ drop (at + n) xs) i false ≡ over at n (λ _. true) (λ k. get_or xs k false) i
get_or-marked xs at n fits i =
    let len : length (replicate n true) ≡ n = length-replicate n true in
    let placed = get_or-placed xs (replicate n true) at false (omega arith) i in
    let e : get_or (take at xs ++ replicate n true ++ drop (at + n) xs) i false
    ≡ over at n (λ k. get_or (replicate n true) (k - at) false) (λ k. get_or xs k false) i =
    subst (λ (m : ℕ). get_or (take at xs ++ replicate n true ++ drop (at + m) xs) i false ≡ over at m (λ k. get_or (replicate n true) (k - at) false) (λ k. get_or xs k false) i) len placed in
    e ∙ elim (lies at n i) [
      | below is ↦ over_below at n _ _ i is ∙ sym (over_below at n _ (λ k. get_or xs k false) i is)
      | inside from to ↦ over_inside at n _ _ i from to ∙ get_or-replicate n (i - at) true false (omega arith) ∙ sym (over_inside at n (λ _. true) _ i from to)
      | above is ↦ over_above at n _ _ i is ∙ sym (over_above at n _ (λ k. get_or xs k false) i is)
    ]

pub get_or-grown : {A : Type 0} (xs : List A) (n k : ℕ) (d : A) → length xs ≤ n → (i : ℕ) → get_or (take n xs ++ replicate k d) i d ≡ get_or xs i d
get_or-grown xs n k d fits i =
    let whole : take n xs ≡ xs = take_all n xs fits in
    ap (λ (l : List _). get_or (l ++ replicate k d) i d) whole ∙ elim (cases_lt i (length xs)) [
      | inl under ↦ get_or_append_left xs (replicate k d) d i under
      | inr from ↦
          get_or-append_right xs (replicate k d) (length xs) i d refl from
          ∙ elim (cases_lt (i - length xs) k) [
            | inl in_zeros ↦ get_or-replicate k (i - length xs) d d in_zeros
            | inr past ↦ get_or_past (replicate k d) (i - length xs) d (omega (arith, length-replicate k d))
          ]
          ∙ sym (get_or_past xs i d from)
    ]

-- the same, from a vector with more room
pub grown_from : {A : Type 0} (old mid new : List A) (n k : ℕ) (d : A) → mid ≡ old → new ≡ take n mid ++ replicate k d → length old ≤ n → (i : ℕ) → get_or new i d ≡ get_or old i d
grown_from {A} old mid new n k d same is fits i =
    let e : new ≡ take n old ++ replicate k d = is ∙ ap (λ (l : List A). take n l ++ replicate k d) same in
    ap (λ (l : List A). get_or l i d) e ∙ get_or-grown old n k d fits i

pub get_or-set : {A : Type 0} (xs : List A) (at : ℕ) (a d : A) → at < length xs → (i : ℕ) → get_or (set xs at a) i d ≡ over at 1 (λ _. a) (λ k. get_or xs k d) i
get_or-set xs at a d fits i = elim (lies at 1 i) [
  | below is ↦ let other : i ≢ at = omega arith in get_or-set_other xs at i a d other ∙ sym (over_below at 1 _ (λ k. get_or xs k d) i is)
  | inside from to ↦
      let here : at ≡ i = omega arith in
      ap (λ (k : ℕ). get_or (set xs at a) k d) (sym here) ∙ get_or-set_same xs at a d fits ∙ sym (over_inside at 1 (λ _. a) _ i from to)
  | above is ↦ let other : i ≢ at = omega arith in get_or-set_other xs at i a d other ∙ sym (over_above at 1 _ (λ k. get_or xs k d) i is)
]

pub patch_bytes : (c : Image) (at : ℕ) (bytes : List ℕ) → HoldsBytes c → ((i : ℕ) → get_or bytes i 0 < 256) → HoldsBytes (patch c at bytes)
patch_bytes c at bytes old new i = elim (lies at (length bytes) i) [
  | below is ↦ subst (λ (n : ℕ). n < 256) (sym (over_below at (length bytes) (λ k. get_or bytes (k - at) 0) c i is)) (old i)
  | inside from to ↦ subst (λ (n : ℕ). n < 256) (sym (over_inside at (length bytes) (λ k. get_or bytes (k - at) 0) c i from to)) (new (i - at))
  | above is ↦ subst (λ (n : ℕ). n < 256) (sym (over_above at (length bytes) (λ k. get_or bytes (k - at) 0) c i is)) (old i)
]

pub whole_written : (at : ℕ) (bytes : List ℕ) (m : Medium) → IsWhole m → ((i : ℕ) → get_or bytes i 0 < 256) → IsWhole (written at bytes m)
whole_written at bytes m whole new = record {
  content = patch_bytes m.content at bytes whole.content new;
  durable = whole.durable;
  same = λ i quiet. elim (lies at (length bytes) i) [
    | below is ↦ over_below at (length bytes) _ m.content i is ∙ whole.same i (sym (over_below at (length bytes) _ m.pending i is) ∙ quiet)
    | inside from to ↦ absurd (cc (over_inside at (length bytes) (λ _. true) m.pending i from to))
    | above is ↦ over_above at (length bytes) _ m.content i is ∙ whole.same i (sym (over_above at (length bytes) _ m.pending i is) ∙ quiet)
  ];
}

pub over_both : {A : Type 0} (at n : ℕ) (f g : ℕ → A) (x : A) → ((i : ℕ) → f i ≡ x) → ((i : ℕ) → g i ≡ x) → (i : ℕ) → over at n f g i ≡ x
over_both at n f g x in_it out_of_it i = elim (lies at n i) [
  | below is ↦ over_below at n f g i is ∙ out_of_it i
  | inside from to ↦ over_inside at n f g i from to ∙ in_it i
  | above is ↦ over_above at n f g i is ∙ out_of_it i
]
