-- Eight bytes of two keys compare as the numbers that they are.
use Rattle.std.proofs.Common.{◌≡◌, ◌≢◌, ◌⊎◌, ◌<◌, ◌≤◌, ◌+◌, ◌*◌, ◌^◌, ℕ, zero, suc, inl, inr, List, [], ◌∷◌, length, drop, Some, refl, sym, ap, ◌∙◌, arith, length-drop}
use Rattle.std.specs.Ordering.{nat_cmp, ordering_then}
use Rattle.std.specs.declared.cmp.Ordering.{Ordering}
use Rattle.std.specs.declared.cmp.Ordering.TheVariants.{Less, Equal, Greater}
use Rattle.std.specs.Cmp.{nat_cmp_is}
use Rattle.std.proofs.lemmas.Bool.{cases_lt}
use Rattle.std.proofs.lemmas.List.{drop-drop}
use Rattle.std.proofs.Math.Nat.{mul-le-mul_right}
use Rattle.byteorder.specs.Endian.{big_from}
use Rattle.byteorder.specs.Numbers.{big_from-cons, big_from-lt}
use Rattle.strat_base.specs.Numbers.{number, number_at, AreBytes}
use Rattle.strat_base.specs.Order.{key_cmp}
use Rattle.strat_base.proofs.NumberLemmas.{number_at_some, AreBytes-drop}

-- two digits compare as their number does
digits : (x y n m p : ℕ) → n < p → m < p → nat_cmp (x * p + n) (y * p + m) ≡ ordering_then (nat_cmp x y) (nat_cmp n m)
digits x y n m p small smaller =
    elim (cases_lt x y) [
      | inl lt ↦
          let more : (x + 1) * p ≤ y * p = mul-le-mul_right p (omega arith) in
          let one : (x + 1) * p ≡ x * p + p = grind arith in
          sym (nat_cmp_is (x * p + n) (y * p + m) Less (omega (arith, more, one)))
          ∙ ap (λ (o : Ordering). ordering_then o (nat_cmp n m)) (nat_cmp_is x y Less lt)
      | inr ge ↦
          elim (cases_lt y x) [
            | inl gt ↦
                let more : (y + 1) * p ≤ x * p = mul-le-mul_right p (omega arith) in
                let one : (y + 1) * p ≡ y * p + p = grind arith in
                sym (nat_cmp_is (x * p + n) (y * p + m) Greater (omega (arith, more, one)))
                ∙ ap (λ (o : Ordering). ordering_then o (nat_cmp n m)) (nat_cmp_is x y Greater gt)
            | inr le ↦
                let same : x ≡ y = omega arith in
                same_digits same
                ∙ ap (λ (o : Ordering). ordering_then o (nat_cmp n m)) (nat_cmp_is x y Equal same)
          ]
    ]
  where
    same_digits : x ≡ y → nat_cmp (x * p + n) (y * p + m) ≡ nat_cmp n m
    same_digits same =
        let both : x * p ≡ y * p = ap (λ (k : ℕ). k * p) same in
        elim (cases_lt n m) [
          | inl lt ↦ sym (nat_cmp_is (x * p + n) (y * p + m) Less (omega (arith, both))) ∙ nat_cmp_is n m Less lt
          | inr ge ↦
              elim (cases_lt m n) [
                | inl gt ↦ sym (nat_cmp_is (x * p + n) (y * p + m) Greater (omega (arith, both))) ∙ nat_cmp_is n m Greater gt
                | inr le ↦ sym (nat_cmp_is (x * p + n) (y * p + m) Equal (omega (arith, both))) ∙ nat_cmp_is n m Equal (omega arith)
              ]
        ]

then_then : (o p q : Ordering) → ordering_then o (ordering_then p q) ≡ ordering_then (ordering_then o p) q
then_then Less p q = refl
then_then Equal p q = refl
then_then Greater p q = refl

-- the first bytes of two lists compare as their numbers do
front : (k : ℕ) (xs ys : List ℕ) → AreBytes xs → AreBytes ys → k ≤ length xs → k ≤ length ys
    → key_cmp xs ys ≡ ordering_then (nat_cmp (big_from 0 k xs) (big_from 0 k ys)) (key_cmp (drop k xs) (drop k ys))
front zero xs ys fx fy lx ly = ap (λ (o : Ordering). ordering_then o (key_cmp xs ys)) (nat_cmp_is 0 0 Equal refl)
front (suc k) [] ys fx fy lx ly = absurd (omega arith)
front (suc k) (x ∷ xs) [] fx fy lx ly = absurd (omega arith)
front (suc k) (x ∷ xs) (y ∷ ys) fx fy lx ly =
    let gx : AreBytes xs = λ i. fx (suc i) in
    let gy : AreBytes ys = λ i. fy (suc i) in
    let inner = front k xs ys gx gy (omega arith) (omega arith) in
    ap (λ (o : Ordering). ordering_then (nat_cmp x y) o) inner
    ∙ then_then (nat_cmp x y) (nat_cmp (big_from 0 k xs) (big_from 0 k ys)) (key_cmp (drop k xs) (drop k ys))
    ∙ ap (λ (o : Ordering). ordering_then o (key_cmp (drop k xs) (drop k ys)))
    (sym (digits x y (big_from 0 k xs) (big_from 0 k ys) (256 ^ k) (big_from-lt 0 k xs gx) (big_from-lt 0 k ys gy))
    ∙ (λ j. nat_cmp (x * 256 ^ k + sym (big_from-cons 0 k x xs) j) (y * 256 ^ k + sym (big_from-cons 0 k y ys) j)))

-- eight bytes at an offset decide, or what follows them
pub word_step : (a b : List ℕ) (at x y : ℕ) → AreBytes a → AreBytes b → Some x ≡ number_at 8 a at → Some y ≡ number_at 8 b at
    → key_cmp (drop at a) (drop at b) ≡ ordering_then (nat_cmp x y) (key_cmp (drop (at + 8) a) (drop (at + 8) b))
unfolding number
word_step a b at x y fa fb first second =
    let nx = number_at_some 8 a at x first in
    let ny = number_at_some 8 b at y second in
    front 8 (drop at a) (drop at b) (AreBytes-drop at a fa) (AreBytes-drop at b fb) (omega (arith, nx.0, length-drop at a)) (omega (arith, ny.0, length-drop at b))
    ∙ (λ j. ordering_then (nat_cmp (sym nx.1 j) (sym ny.1 j)) (key_cmp (drop-drop 8 at a j) (drop-drop 8 at b j)))

pub decides : (x y : ℕ) (o : Ordering) → x ≢ y → ordering_then (nat_cmp x y) o ≡ nat_cmp x y
decides x y o differ =
    elim (cases_lt x y) [
      | inl lt ↦ let e = nat_cmp_is x y Less lt in ap (λ (p : Ordering). ordering_then p o) (sym e) ∙ e
      | inr ge ↦
          elim (cases_lt y x) [
            | inl gt ↦ let e = nat_cmp_is x y Greater gt in ap (λ (p : Ordering). ordering_then p o) (sym e) ∙ e
            | inr le ↦ absurd (differ (omega arith))
          ]
    ]

pub same_word : (x y : ℕ) (o : Ordering) → x ≡ y → ordering_then (nat_cmp x y) o ≡ o
same_word x y o same = ap (λ (p : Ordering). ordering_then p o) (sym (nat_cmp_is x y Equal same))

-- one of two lists of these lengths, which agree up to here, ends here
lengths_decide : (i : ℕ) (xs ys : List ℕ) → (length xs ≡ 0) ⊎ (length ys ≡ 0) → nat_cmp (i + length xs) (i + length ys) ≡ key_cmp xs ys
lengths_decide i [] [] ends = sym (nat_cmp_is (i + 0) (i + 0) Equal refl)
lengths_decide i [] (y ∷ ys) ends = sym (nat_cmp_is (i + 0) (i + suc (length ys)) Less (omega arith))
lengths_decide i (x ∷ xs) [] ends = sym (nat_cmp_is (i + suc (length xs)) (i + 0) Greater (omega arith))
lengths_decide i (x ∷ xs) (y ∷ ys) ends = absurd (elim ends [ inl none ↦ omega (arith, none) | inr none ↦ omega (arith, none) ])

-- two lists of which one ends at a place compare from there on as their lengths do
pub ends_decide : (a b : List ℕ) (i : ℕ) → i ≤ length a → i ≤ length b → (length a ≤ i) ⊎ (length b ≤ i) → nat_cmp (length a) (length b) ≡ key_cmp (drop i a) (drop i b)
ends_decide a b i first second ends =
    let more = length-drop i a in
    let less = length-drop i b in
    let whole : length a ≡ i + length (drop i a) = omega (arith, more) in
    let other : length b ≡ i + length (drop i b) = omega (arith, less) in
    (λ j. nat_cmp (whole j) (other j))
    ∙ lengths_decide i (drop i a) (drop i b) (elim ends [ inl out ↦ inl (omega (arith, more)) | inr out ↦ inr (omega (arith, less)) ])
