-- Images, windows on them, and bytes written over them.
use Rattle.std.proofs.Common.{◌≡◌, ◌≤◌, ◌<◌, ℕ, zero, suc, ◌+◌, ◌-◌, inl, inr, List, [], ◌∷◌, ◌++◌, length, get_or, refl, sym, ◌∙◌, ap, arith}
use Rattle.std.proofs.lemmas.Bool.{cases_lt}
use Rattle.std.proofs.lemmas.Bool.Decides.{nat_tests}
use Rattle.def_crash.specs.Image.{Image, window, SameIn, Outside, over, patch}

-- functions that agree everywhere are one
pub same_everywhere : {A : Type 0} (f g : ℕ → A) → ((i : ℕ) → f i ≡ g i) → f ≡ g
same_everywhere f g each = λ j i. (each i) j

-- where a place lies with regard to a range
pub data Lies (at n i : ℕ) : Type 0 where
  below : i < at → Lies at n i
  inside : at ≤ i → i < at + n → Lies at n i
  above : at + n ≤ i → Lies at n i

pub lies : (at n i : ℕ) → Lies at n i
lies at n i = elim (cases_lt i at) [
  | inl under ↦ below under
  | inr from ↦ elim (cases_lt i (at + n)) [ inl within ↦ inside from within | inr past ↦ above past ]
]

pub over_below : {A : Type 0} (at n : ℕ) (f g : ℕ → A) (i : ℕ) → i < at → over at n f g i ≡ g i
unfolding over
over_below at n f g i under = grind (arith, nat_tests)

pub over_inside : {A : Type 0} (at n : ℕ) (f g : ℕ → A) (i : ℕ) → at ≤ i → i < at + n → over at n f g i ≡ f i
unfolding over
over_inside at n f g i from within = grind (arith, nat_tests)

pub over_above : {A : Type 0} (at n : ℕ) (f g : ℕ → A) (i : ℕ) → at + n ≤ i → over at n f g i ≡ g i
unfolding over
over_above at n f g i past = grind (arith, nat_tests)

-- what agrees with one function in the range and with another outside is the one over the other
pub is_over : {A : Type 0} (at n : ℕ) (f g h : ℕ → A) → ((i : ℕ) → i < at → h i ≡ g i) → ((i : ℕ) → at ≤ i → i < at + n → h i ≡ f i) → ((i : ℕ) → at + n ≤ i → h i ≡ g i) → h ≡ over at n f g
is_over at n f g h under within past = same_everywhere h (over at n f g) (λ i. elim (lies at n i) [
  | below is ↦ under i is ∙ sym (over_below at n f g i is)
  | inside from to ↦ within i from to ∙ sym (over_inside at n f g i from to)
  | above is ↦ past i is ∙ sym (over_above at n f g i is)
])

pub outside_refl : (at n : ℕ) (c : Image) → Outside at n c c
outside_refl at n c = record { below = λ i is. refl; above = λ i is. refl }

pub outside_trans : {at n : ℕ} {old mid new : Image} → Outside at n old mid → Outside at n mid new → Outside at n old new
outside_trans o p = record { below = λ i is. p.below i is ∙ o.below i is; above = λ i is. p.above i is ∙ o.above i is }

-- a range within a wider one
pub outside_wider : {old new : Image} (at n from m : ℕ) → from ≤ at → at + n ≤ from + m → Outside at n old new → Outside from m old new
outside_wider at n from m low high o = record { below = λ i is. o.below i (omega arith); above = λ i is. o.above i (omega arith) }

pub outside_patch : (c : Image) (at : ℕ) (bytes : List ℕ) → Outside at (length bytes) c (patch c at bytes)
outside_patch c at bytes = record { below = λ i is. over_below at (length bytes) _ c i is; above = λ i is. over_above at (length bytes) _ c i is }

-- outside a range nothing changes in another that does not meet it
pub outside_same : {old new : Image} (at n from m : ℕ) → (from + m ≤ at) → Outside at n old new → SameIn from m old new
outside_same at n from m apart o = record { byte = λ i low high. o.below i (omega arith) }

pub outside_same_above : {old new : Image} (at n from m : ℕ) → (at + n ≤ from) → Outside at n old new → SameIn from m old new
outside_same_above at n from m apart o = record { byte = λ i low high. o.above i (omega arith) }

pub length-window : (c : Image) (at n : ℕ) → length (window c at n) ≡ n
unfolding window
length-window c at zero = refl
length-window c at (suc n) = ap suc (length-window c (suc at) n)

pub window_at : (c : Image) (at n i : ℕ) → i < n → get_or (window c at n) i 0 ≡ c (at + i)
unfolding window
window_at c at zero i is = absurd (omega arith)
window_at c at (suc n) zero is = let e : at ≡ at + 0 = omega arith in ap c e
window_at c at (suc n) (suc i) is = let e : suc at + i ≡ at + suc i = omega arith in window_at c (suc at) n i (omega arith) ∙ ap c e

-- images with the same bytes there show the same window
pub window_same : (old new : Image) (at n : ℕ) → SameIn at n old new → window new at n ≡ window old at n
unfolding window
window_same old new at zero same = refl
window_same old new at (suc n) same =
    let here : new at ≡ old at = same.byte at (omega arith) (omega arith) in
    let rest : window new (suc at) n ≡ window old (suc at) n = window_same old new (suc at) n (record { byte = λ i low high. same.byte i (omega arith) (omega arith) }) in
    λ j. here j ∷ rest j

-- a window ends in another
pub window_split : (c : Image) (at m n : ℕ) → window c at (m + n) ≡ window c at m ++ window c (at + m) n
unfolding window
window_split c at zero n = let e : 0 + n ≡ n = omega arith in let f : at ≡ at + 0 = omega arith in ap (λ (k : ℕ). window c at k) e ∙ ap (λ (k : ℕ). window c k n) f
window_split c at (suc m) n =
    let e : suc m + n ≡ suc (m + n) = omega arith in
    let f : suc at + m ≡ at + suc m = omega arith in
    ap (λ (k : ℕ). window c at k) e ∙ ap (λ (l : List ℕ). c at ∷ l) (window_split c (suc at) m n) ∙ ap (λ (k : ℕ). c at ∷ (window c (suc at) m ++ window c k n)) f

-- a list whose elements an image has from a place on is its window
pub is_window : (c : Image) (at n : ℕ) (bytes : List ℕ) → length bytes ≡ n → ((i : ℕ) → i < n → get_or bytes i 0 ≡ c (at + i)) → bytes ≡ window c at n
unfolding window
is_window c at zero [] len each = refl
is_window c at zero (b ∷ bytes) len each = absurd (omega arith)
is_window c at (suc n) [] len each = absurd (omega arith)
is_window c at (suc n) (b ∷ bytes) len each =
    let e : at + 0 ≡ at = omega arith in
    let here : b ≡ c at = each 0 (omega arith) ∙ ap c e in
    let rest : bytes ≡ window c (suc at) n = is_window c (suc at) n bytes (omega arith) (λ i is. let f : at + suc i ≡ suc at + i = omega arith in each (suc i) (omega arith) ∙ ap c f) in
    λ j. here j ∷ rest j

-- what was written is read
pub window_patch : (c : Image) (at : ℕ) (bytes : List ℕ) → window (patch c at bytes) at (length bytes) ≡ bytes
window_patch c at bytes = sym (is_window (patch c at bytes) at (length bytes) bytes refl (λ i is.
    let e : at + i - at ≡ i = omega arith in
    sym (over_inside at (length bytes) _ c (at + i) (omega arith) (omega arith) ∙ ap (λ (k : ℕ). get_or bytes k 0) e)))
