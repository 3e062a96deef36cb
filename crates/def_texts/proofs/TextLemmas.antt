-- Runs of versions, and the sparsest of some arrays.
use Rattle.std.proofs.Common.{◌≡◌, ◌+◌, ◌*◌, ℕ, suc, Bool, true, false, cond, eqb, ltb, not, ◌&&◌, List, [], ◌∷◌, ◌++◌, Option, Some, None, refl, sym, ap, ◌∙◌, subst, arith}
use Rattle.std.specs.Prelude.{flat_map, IsTrue}
use Rattle.std.specs.List.{AllByRecursion, range_with_len, list_all}
use Rattle.std.proofs.lemmas.Bool.{and_from, and_parts, eqb-true, cond-true, cond-false, lt-ltb, le-ltb}
use Rattle.strat_base.specs.declared.descriptors.ArrayDesc.{ArrayDesc}
use Rattle.def_texts.specs.Texts.{run_from, runs_of, numbers_of, are_separate, has_number, sparser, sparsest, IsSparser, IsNoDenser}

numbers_from : (v : ℕ) (runs : List (ℕ × ℕ)) → flat_map numbers_of (run_from v runs) ≡ v ∷ flat_map numbers_of runs
numbers_from v [] = refl
numbers_from v (run ∷ runs) = by_test (eqb run.0 (v + 1)) refl
  where
    by_test : (b : Bool) → eqb run.0 (v + 1) ≡ b
        → flat_map numbers_of (cond b ((v, suc run.1) ∷ runs) ((v, 1) ∷ run ∷ runs)) ≡ v ∷ flat_map numbers_of (run ∷ runs)
    by_test true e = ap (λ (n : ℕ). v ∷ (range_with_len n run.1 ++ flat_map numbers_of runs)) (sym (eqb-true run.0 (v + 1) e))
    by_test false e = refl

-- the runs of a list are its numbers
pub numbers_same : (vs : List ℕ) → flat_map numbers_of (runs_of vs) ≡ vs
numbers_same [] = refl
numbers_same (v ∷ vs) = numbers_from v (runs_of vs) ∙ ap (λ (x : List ℕ). v ∷ x) (numbers_same vs)

separate_from : (v : ℕ) (runs : List (ℕ × ℕ)) → are_separate runs ≡ true → are_separate (run_from v runs) ≡ true
separate_from v [] apart = refl
separate_from v (run ∷ runs) apart = by_test (eqb run.0 (v + 1)) refl
  where
    merged : (rest : List (ℕ × ℕ)) → run.0 ≡ v + 1 → are_separate (run ∷ rest) ≡ true → are_separate ((v, suc run.1) ∷ rest) ≡ true
    merged [] e apart = refl
    merged (next ∷ rest) e apart = ap (λ (m : ℕ). not (eqb next.0 m) && are_separate (next ∷ rest)) (omega (arith, e)) ∙ apart

    by_test : (b : Bool) → eqb run.0 (v + 1) ≡ b → are_separate (cond b ((v, suc run.1) ∷ runs) ((v, 1) ∷ run ∷ runs)) ≡ true
    by_test true e = merged runs (eqb-true run.0 (v + 1) e) apart
    by_test false e = ap (λ (b : Bool). not b && are_separate (run ∷ runs)) e ∙ apart

filled_from : (v : ℕ) (runs : List (ℕ × ℕ)) → list_all has_number runs ≡ true → list_all has_number (run_from v runs) ≡ true
filled_from v [] filled = refl
filled_from v (run ∷ runs) filled = by_test (eqb run.0 (v + 1)) refl
  where
    by_test : (b : Bool) → eqb run.0 (v + 1) ≡ b → list_all has_number (cond b ((v, suc run.1) ∷ runs) ((v, 1) ∷ run ∷ runs)) ≡ true
    by_test true e = and_from (ltb 0 (suc run.1)) (list_all has_number runs) (lt-ltb 0 (suc run.1) (omega arith)) (and_parts (has_number run) (list_all has_number runs) filled).1
    by_test false e = filled

-- each run of a list has a number
pub runs_filled : (vs : List ℕ) → IsTrue (list_all has_number (runs_of vs))
runs_filled [] = refl
runs_filled (v ∷ vs) = filled_from v (runs_of vs) (runs_filled vs)

-- no run of a list goes on where the one before it ends
pub runs_separate : (vs : List ℕ) → IsTrue (are_separate (runs_of vs))
runs_separate [] = refl
runs_separate (v ∷ vs) = separate_from v (runs_of vs) (runs_separate vs)

-- what holds of each array holds of the sparsest
sparsest_has : (P : ArrayDesc → Type 0) (arrays : List ArrayDesc) → AllByRecursion P arrays → (a : ArrayDesc) → sparsest arrays ≡ Some a → P a
sparsest_has P [] all a e = absurd (cc)
sparsest_has P (b ∷ arrays) all a e = by_rest (sparsest_has P arrays all.1) (sparsest arrays) refl e
  where
    by_test : (c : ArrayDesc) → P c → (t : Bool) → Some (cond t c b) ≡ Some a → P a
    by_test c has true e = let same : c ≡ a = cc in subst P same has
    by_test c has false e = let same : b ≡ a = cc in subst P same all.0

    by_rest : ((c : ArrayDesc) → sparsest arrays ≡ Some c → P c) → (o : Option ArrayDesc) → sparsest arrays ≡ o → Some (sparser b o) ≡ Some a → P a
    by_rest rest None is e = let same : b ≡ a = cc in subst P same all.0
    by_rest rest (Some c) is e = by_test c (rest c is) (ltb (c.least * b.entries) (b.least * c.entries)) e

-- an array is the sparsest where those behind it are no sparser
sparsest_here : (a : ArrayDesc) (after : List ArrayDesc) → AllByRecursion (IsNoDenser a) after → sparsest (a ∷ after) ≡ Some a
sparsest_here a after all = by_rest (sparsest after) refl
  where
    by_rest : (o : Option ArrayDesc) → sparsest after ≡ o → Some (sparser a o) ≡ Some a
    by_rest None is = refl
    by_rest (Some c) is =
        ap (λ (x : ArrayDesc). Some x)
        (cond-false (ltb (c.least * a.entries) (a.least * c.entries)) c a (le-ltb (c.least * a.entries) (a.least * c.entries) (sparsest_has (IsNoDenser a) after all c is)))

-- and where those in front of it are denser, it is the sparsest of all
pub sparsest_is_first : (before after : List ArrayDesc) (a : ArrayDesc) → AllByRecursion (IsSparser a) before → AllByRecursion (IsNoDenser a) after
    → sparsest (before ++ a ∷ after) ≡ Some a
sparsest_is_first [] after a denser no_sparser = sparsest_here a after no_sparser
sparsest_is_first (b ∷ before) after a denser no_sparser =
    ap (λ (o : Option ArrayDesc). Some (sparser b o)) (sparsest_is_first before after a denser.1 no_sparser)
    ∙ ap (λ (x : ArrayDesc). Some x) (cond-true (ltb (a.least * b.entries) (b.least * a.entries)) a b (lt-ltb (a.least * b.entries) (b.least * a.entries) denser.0))
