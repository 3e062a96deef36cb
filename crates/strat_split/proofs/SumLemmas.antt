-- Sums of the numbers that have a label.
use Rattle.std.proofs.Common.{◌≡◌, ◌<◌, ◌+◌, ℕ, zero, suc, Bool, true, false, cond, eqb, inl, inr, List, [], ◌∷◌, ◌++◌, filter, get_or, replicate, refl, ap, ◌∙◌, arith, add-one}
use Rattle.std.specs.List.{sum_by, range_with_len}
use Rattle.std.proofs.lemmas.Bool.{ne_eqb, cases_eq, cases_lt}
use Rattle.std.proofs.lemmas.List.{get_or-replicate, get_or_past, length-replicate}
use Rattle.std.proofs.lemmas.List.Elements.{filter-append}
use Rattle.std.proofs.lemmas.List.Sums.{sum_by-append}
use Rattle.strat_split.specs.Placing.{part_sum}

-- a number that counts where a test passes
abbrev pub taken : Bool → ℕ → ℕ
taken b n = cond b n 0

pub part_sum_more : (q : ℕ) (labels numbers : List ℕ) (n : ℕ) → part_sum q labels numbers (n + 1) ≡ part_sum q labels numbers n + taken (eqb (get_or labels n 0) q) (get_or numbers n 0)
part_sum_more q labels numbers n = ap (part_sum q labels numbers) (add-one n)

pub part_sum_same : (q : ℕ) (labels labels' numbers numbers' : List ℕ) (n : ℕ) → ((v : ℕ) → v < n → (get_or labels' v 0 ≡ get_or labels v 0) × (get_or numbers' v 0 ≡ get_or numbers v 0))
    → part_sum q labels' numbers' n ≡ part_sum q labels numbers n
part_sum_same q labels labels' numbers numbers' zero same = refl
part_sum_same q labels labels' numbers numbers' (suc n) same =
    λ i. part_sum_same q labels labels' numbers numbers' n (λ v lt. same v (omega arith)) i + taken (eqb ((same n (omega arith)).0 i) q) ((same n (omega arith)).1 i)

-- what differs at p alone
pub part_sum_change : (q p : ℕ) (labels labels' numbers numbers' : List ℕ) (n : ℕ) → ((v : ℕ) → v < n → (v ≡ p → ⊥) → (get_or labels' v 0 ≡ get_or labels v 0) × (get_or numbers' v 0 ≡ get_or numbers v 0)) → p < n
    → part_sum q labels' numbers' n + taken (eqb (get_or labels p 0) q) (get_or numbers p 0) ≡ part_sum q labels numbers n + taken (eqb (get_or labels' p 0) q) (get_or numbers' p 0)
part_sum_change q p labels labels' numbers numbers' zero same lt = absurd (omega arith)
part_sum_change q p labels labels' numbers numbers' (suc n) same lt =
    elim (cases_eq n p) [
      | inl here ↦
          let rest : part_sum q labels' numbers' n ≡ part_sum q labels numbers n = part_sum_same q labels labels' numbers numbers' n (λ v under. same v (omega arith) (λ e. omega (arith, e, here))) in
          let old : taken (eqb (get_or labels n 0) q) (get_or numbers n 0) ≡ taken (eqb (get_or labels p 0) q) (get_or numbers p 0) = ap (λ (v : ℕ). taken (eqb (get_or labels v 0) q) (get_or numbers v 0)) here in
          let new : taken (eqb (get_or labels' n 0) q) (get_or numbers' n 0) ≡ taken (eqb (get_or labels' p 0) q) (get_or numbers' p 0) = ap (λ (v : ℕ). taken (eqb (get_or labels' v 0) q) (get_or numbers' v 0)) here in
          omega arith
      | inr apart ↦
          let rest : part_sum q labels' numbers' n + taken (eqb (get_or labels p 0) q) (get_or numbers p 0) ≡ part_sum q labels numbers n + taken (eqb (get_or labels' p 0) q) (get_or numbers' p 0) = part_sum_change q p labels labels' numbers numbers' n (λ v under. same v (omega arith)) (omega arith) in
          let here = same n (omega arith) apart in
          let last : taken (eqb (get_or labels' n 0) q) (get_or numbers' n 0) ≡ taken (eqb (get_or labels n 0) q) (get_or numbers n 0) = λ i. taken (eqb (here.0 i) q) (here.1 i) in
          omega arith
    ]

pub part_sum_none : (q : ℕ) (labels numbers : List ℕ) (n : ℕ) → ((v : ℕ) → v < n → get_or labels v 0 ≡ q → ⊥) → part_sum q labels numbers n ≡ 0
part_sum_none q labels numbers zero none = refl
part_sum_none q labels numbers (suc n) none =
    let rest : part_sum q labels numbers n ≡ 0 = part_sum_none q labels numbers n (λ v lt. none v (omega arith)) in
    let off : taken (eqb (get_or labels n 0) q) (get_or numbers n 0) ≡ 0 = ap (λ (b : Bool). taken b (get_or numbers n 0)) (ne_eqb (get_or labels n 0) q (none n (omega arith))) in
    omega arith

pub part_sum_zeros : (q m : ℕ) (labels : List ℕ) (n : ℕ) → part_sum q labels (replicate {A = ℕ} m 0) n ≡ 0
part_sum_zeros q m labels zero = refl
part_sum_zeros q m labels (suc n) =
    let rest : part_sum q labels (replicate {A = ℕ} m 0) n ≡ 0 = part_sum_zeros q m labels n in
    let nothing : get_or (replicate {A = ℕ} m 0) n 0 ≡ 0 = zero_at m n in
    let off : taken (eqb (get_or labels n 0) q) (get_or (replicate {A = ℕ} m 0) n 0) ≡ 0 = ap (taken (eqb (get_or labels n 0) q)) nothing ∙ none (eqb (get_or labels n 0) q) in
    omega arith
  where
    none : (b : Bool) → ◌≡◌ {A = ℕ} (taken b 0) 0
    none true = refl
    none false = refl

    zero_at : (m n : ℕ) → get_or (replicate {A = ℕ} m 0) n 0 ≡ 0
    zero_at m n = elim (cases_lt n m) [ inl lt ↦ get_or-replicate m n 0 0 lt | inr past ↦ get_or_past (replicate {A = ℕ} m 0) n 0 (omega (arith, length-replicate {A = ℕ} m 0)) ]

-- the same sum over the versions of a part
range_push : (a n : ℕ) → range_with_len a (suc n) ≡ range_with_len a n ++ (a + n) ∷ []
range_push a zero = ap (λ (x : ℕ). x ∷ []) (omega arith)
range_push a (suc n) = ap (λ (xs : List ℕ). a ∷ xs) (range_push (a + 1) n ∙ ap (λ (x : ℕ). range_with_len (a + 1) n ++ x ∷ []) (omega arith))

pub sum_members : (f : ℕ → ℕ) (q : ℕ) (labels numbers : List ℕ) (n : ℕ) → ((v : ℕ) → v < n → f v ≡ get_or numbers v 0) → sum_by f (filter (λ v. eqb (get_or labels v 0) q) (range_with_len 0 n)) ≡ part_sum q labels numbers n
sum_members f q labels numbers zero same = refl
sum_members f q labels numbers (suc n) same =
    ap (λ (xs : List ℕ). sum_by f (filter (λ v. eqb (get_or labels v 0) q) xs)) (range_push 0 n ∙ ap (λ (x : ℕ). range_with_len 0 n ++ x ∷ []) (omega arith)) ∙ ap (sum_by f) (filter-append (λ v. eqb (get_or labels v 0) q) (range_with_len 0 n) (n ∷ [])) ∙ sum_by-append f (filter (λ v. eqb (get_or labels v 0) q) (range_with_len 0 n)) (cond (eqb (get_or labels n 0) q) (n ∷ []) []) ∙ (λ i. sum_members f q labels numbers n (λ v lt. same v (omega arith)) i + last (eqb (get_or labels n 0) q) i)
  where
    last : (b : Bool) → sum_by f (cond b (n ∷ []) []) ≡ taken b (get_or numbers n 0)
    last true = let at : f n ≡ get_or numbers n 0 = same n (omega arith) in omega arith
    last false = refl
