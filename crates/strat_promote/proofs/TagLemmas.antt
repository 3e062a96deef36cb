-- Looking a version up among those of a tag.
use Rattle.std.proofs.Common.{◌≡◌, ◌≢◌, ◌≤◌, ◌<◌, ◌+◌, ◌||◌, ℕ, zero, suc, Bool, true, false, eqb, inl, inr, List, [], ◌∷◌, length, get_or, Result, Ok, Err, MatchResult, MatchBool, is_ok, subst, true≢false, refl, sym, ap, ◌∙◌, arith}
use Rattle.std.specs.List.Sorted.{IsNonDecreasing, IsBinarySearchResult}
use Rattle.std.specs.Ordering.{nat_cmp}
use Rattle.std.proofs.lemmas.Bool.{eq-eqb, ne_eqb, cases_lt, or_left, or_right}
use Rattle.std.proofs.lemmas.List.Sorted.{searched}
use Rattle.strat_base.specs.Entries.{is_tagged}

tagged_at : (xs : List ℕ) (v i : ℕ) → i < length xs → get_or xs i 0 ≡ v → is_tagged xs v ≡ true
tagged_at [] v i lt is = absurd (omega arith)
tagged_at (x ∷ xs) v zero lt is = or_left (eqb x v) (is_tagged xs v) (eq-eqb x v is)
tagged_at (x ∷ xs) v (suc i) lt is = or_right (eqb x v) (is_tagged xs v) (tagged_at xs v i (omega arith) is)

untagged : (xs : List ℕ) (v : ℕ) → ((k : ℕ) → k < length xs → get_or xs k 0 ≢ v) → is_tagged xs v ≡ false
untagged [] v none = refl
untagged (x ∷ xs) v none =
    ap (λ (b : Bool). b || is_tagged xs v) (ne_eqb x v (none 0 (omega arith))) ∙ untagged xs v (λ k lt. none (suc k) (omega arith))

pub tagged_if_found : (xs : List ℕ) (v : ℕ) (r : Result ℕ ℕ) → IsNonDecreasing xs → IsBinarySearchResult (λ y. nat_cmp y v) xs r → is_ok r ≡ is_tagged xs v
tagged_if_found xs v r rise found = go r (searched xs v r found (λ i j le lt. rise i j 0 le lt))
  where
    go : (r : Result ℕ ℕ) → MatchResult r (λ i. (i < length xs) × (get_or xs i 0 ≡ v)) (λ i. (i ≤ length xs) × ((k : ℕ) → k < i → get_or xs k 0 < v) × ((k : ℕ) → i ≤ k → k < length xs → v < get_or xs k 0))
        → is_ok r ≡ is_tagged xs v
    go (Ok i) there = sym (tagged_at xs v i there.0 there.1)
    go (Err i) there =
        sym (untagged xs v (λ k lt is. elim (cases_lt k i) [ inl before ↦ let h = there.1 k before in omega arith | inr after ↦ let h = there.2 k after lt in omega arith ]))

pub sorted_as_said : (xs copy : List ℕ) (r : Bool) → copy ≡ xs → MatchBool r (IsNonDecreasing xs) ((k : ℕ) × (k + 1 < length xs) × ((d : ℕ) → get_or xs (k + 1) d < get_or xs k d)) → r ≡ true → IsNonDecreasing copy
sorted_as_said xs copy true same rise is = subst IsNonDecreasing (sym same) rise
sorted_as_said xs copy false same rise is = absurd (true≢false (sym is))
