-- One block that was taken from a space.
use Rattle.std.proofs.Common.{◌≡◌, ◌<◌, ◌≤◌, ◌+◌, ◌^◌, ℕ, Bool, true, false, eqb, leb, ltb, not, ◌||◌, ◌&&◌, ◌⊎◌, cond, inl, inr, get_or, List, [], ◌∷◌, refl, sym, ap, ◌∙◌, subst, arith, true≢false}
use Rattle.std.proofs.lemmas.Bool.{cases_order, eqb-true, eq-eqb, le-leb, lt-ltb, leb-true, ltb-true, and_from, and_parts, false_from_ne_true}
use Rattle.strat_base.specs.declared.descriptors.Extent.{Extent}
use Rattle.strat_extent.specs.Blocks.{SpaceView, AreRuns, inside, times_in, total_len, is_used, uses}
use Rattle.strat_extent.specs.Change.{IsMarked, AreLowest}
use Rattle.strat_array.specs.Taking.{IsLowestTaken}

bits : (p q r : Bool) → cond p 1 0 ≡ cond q 1 0 + cond r 1 0 → p ≡ (q || r)
bits true true r e = refl
bits true false true e = refl
bits true false false e = absurd (omega arith)
bits false true r e = absurd (omega arith)
bits false false true e = absurd (omega arith)
bits false false false e = refl

unused : (p q : Bool) → cond p 1 0 ≡ cond q 1 0 + 1 → q ≡ false
unused p false e = refl
unused true true e = absurd (omega arith)
unused false true e = absurd (omega arith)

-- a run of one block has this block alone
inside_one : (b n c : ℕ) → n ≡ 1 → inside b (b + n) c ≡ cond (eqb b c) 1 0
inside_one b n c one =
    elim (cases_order b c) [
      | inl same ↦
          ap (λ (t : Bool). cond t 1 0) (and_from (leb b c) (ltb c (b + n)) (le-leb b c (omega arith)) (lt-ltb c (b + n) (omega arith)) ∙ sym (eq-eqb b c same))
      | inr apart ↦
          ap (λ (t : Bool). cond t 1 0)
          (false_from_ne_true (leb b c && ltb c (b + n)) (λ t. let both = and_parts (leb b c) (ltb c (b + n)) t in let le = leb-true b c both.0 in let lt = ltb-true c (b + n) both.1 in away apart le lt)
          ∙ sym (false_from_ne_true (eqb b c) (λ t. let same = eqb-true b c t in elim apart [ inl lt ↦ omega arith | inr lt ↦ omega arith ])))
    ]
  where
    away : (b < c) ⊎ (c < b) → b ≤ c → c < b + n → ⊥
    away (inl lt) le within = omega arith
    away (inr lt) le within = omega arith

-- one run of one block
one_run : (low high : ℕ) (xs : List Extent) (x : Extent) → x ≡ get_or xs 0 x → total_len xs ≡ 1 → AreRuns low xs high → (xs ≡ x ∷ []) × (x.len ≡ 1) × (low ≤ x.start) × (x.start + 1 < high)
one_run low high [] x here one runs = absurd (omega arith)
one_run low high (y ∷ []) x here one runs =
    let same : y ≡ x = sym here in
    let size : y.len ≡ 1 = omega arith in
    (ap (λ (e : Extent). e ∷ []) same, ap (λ (e : Extent). e.len) here ∙ size, subst (λ (e : Extent). low ≤ e.start) same runs.0, subst (λ (e : Extent). e.start + 1 < high) same (let r = runs.2 in omega arith))
one_run low high (y ∷ z ∷ zs) x here one runs = absurd (let a = runs.1 in let b = runs.3.1 in omega arith)

module _ (before after : SpaceView) (x : Extent) (size : x.len ≡ 1) (from : before.first ≤ x.start) (to : x.start + 1 < 2 ^ 32) (marked : IsMarked before (x ∷ []) after) (lowest : AreLowest (x ∷ []) after) where
  times : (c : ℕ) → times_in (x ∷ []) c ≡ cond (eqb x.start c) 1 0
  times c = let one = inside_one x.start x.len c size in omega (arith, one)

  used_then : (c : ℕ) → is_used after c ≡ (is_used before c || eqb x.start c)
  used_then c = bits (is_used after c) (is_used before c) (eqb x.start c) (marked.used c ∙ ap (λ (n : ℕ). uses before c + n) (times c))

  was_free : is_used before x.start ≡ false
  was_free = unused (is_used after x.start) (is_used before x.start) (marked.used x.start ∙ ap (λ (n : ℕ). uses before x.start + n) (times x.start ∙ ap (λ (t : Bool). cond t 1 0) (eq-eqb x.start x.start refl)))

  pub is_taken : IsLowestTaken before x.start after
  unfolding times used_then was_free
  is_taken = record {
    free = and_from (leb before.first x.start && ltb x.start 4294967295) (not (is_used before x.start))
        (and_from (leb before.first x.start) (ltb x.start 4294967295) (le-leb before.first x.start from) (lt-ltb x.start 4294967295 (omega arith)))
        (ap not was_free);
    used = used_then;
    lowest = λ c le lt.
        let there : 0 < times_in (x ∷ []) x.start = omega (arith, times x.start ∙ ap (λ (t : Bool). cond t 1 0) (eq-eqb x.start x.start refl)) in
        let now : is_used after c ≡ true = lowest x.start c there (omega (arith, marked.first)) lt in
        let other : eqb x.start c ≡ false = false_from_ne_true (eqb x.start c) (λ t. let same = eqb-true x.start c t in omega arith) in
        without (is_used before c) (eqb x.start c) (sym (used_then c) ∙ now) other;
    first = marked.first;
    count = marked.count ∙ omega (arith, size);
  }
    where
      without : (p q : Bool) → (p || q) ≡ true → q ≡ false → p ≡ true
      without true q e f = refl
      without false q e f = absurd (true≢false (sym e ∙ f))

-- the lowest free block, taken alone
pub lowest_taken : (before after : SpaceView) (xs : List Extent) (x : Extent) → x ≡ get_or xs 0 x → total_len xs ≡ 1 → AreRuns before.first xs (2 ^ 32) → IsMarked before xs after → AreLowest xs after → IsLowestTaken before x.start after
lowest_taken before after xs x here one runs marked lowest =
    let run = one_run before.first (2 ^ 32) xs x here one runs in
    is_taken before after x run.1 run.2 run.3 (subst (λ (l : List Extent). IsMarked before l after) run.0 marked) (subst (λ (l : List Extent). AreLowest l after) run.0 lowest)
