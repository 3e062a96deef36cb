-- What a sound state stores, and what it has paid for.
use Rattle.std.proofs.Common.{◌≡◌, ◌≤◌, ◌<◌, ◌+◌, ◌*◌, ◌^◌, ℕ, zero, suc, cond, mul-le-mul_right, Bool, true, false, leb, inl, inr, List, [], ◌∷◌, length, Option, Some, unwrap_or, refl, sym, ap, ◌∙◌, subst, arith, true≢false, length-append}
use Rattle.std.specs.List.{sum_by, list_all, flat_map, find, range_with_len, AllByRecursion}
use Rattle.std.proofs.lemmas.Bool.{leb-true, le-leb, and_parts, cases_lt, cases_eq}
use Rattle.std.proofs.lemmas.List.Sums.{sum_by-cons}
use Rattle.std.proofs.Math.Nat.{pow-suc}
use Rattle.strat_base.specs.Tree.{Parents}
use Rattle.def_state.specs.Level.{TaggedArray, Level, own_leads, level_leads, is_led, IsStratified}
use Rattle.def_state.specs.State.{State, versions_of, stored, updates_of, deep}
use Rattle.def_state.specs.Sound.{IsSound}
use Rattle.strat_base.proofs.ListFacts.{find_some, find_none, among_range}
use Rattle.strat_base.proofs.ResultFacts.{option_cases}

pub arrays_led : (arrays : List TaggedArray) → list_all is_led arrays ≡ true → sum_by (λ a. length a.content) arrays ≤ 2 * length (flat_map own_leads arrays)
arrays_led [] led = omega arith
arrays_led (a ∷ arrays) led =
    let parts = and_parts (is_led a) (list_all is_led arrays) led in
    let here = leb-true (length a.content) (2 * length (own_leads a)) parts.0 in
    let rest = arrays_led arrays parts.1 in
    omega (arith, here, rest, sum_by-cons (λ x. length x.content) a arrays, length-append (own_leads a) (flat_map own_leads arrays))

levels_led : (parents : Parents) (levels : List Level) → AllByRecursion (IsStratified parents) levels
    → sum_by (λ level. sum_by (λ a. length a.content) level.arrays) levels ≤ 2 * sum_by (λ level. length (level_leads level)) levels
levels_led parents [] each = omega arith
levels_led parents (level ∷ levels) each =
    let here = arrays_led level.arrays each.0.led in
    let rest = levels_led parents levels each.1 in
    omega (arith, here, rest, sum_by-cons (λ x. sum_by (λ a. length a.content) x.arrays) level levels, sum_by-cons (λ x. length (level_leads x)) level levels)

-- a sound state stores at most two entries for each update
pub stored_twice : (s : State) → IsSound s → stored s ≤ 2 * updates_of s
stored_twice s sound =
    let all = levels_led (versions_of s) s.levels sound.stratified in
    let few = leb-true (sum_by (λ level. length (level_leads level)) s.levels) s.updates sound.few in
    omega (arith, all, few)

-- a search upwards finds the least number that passes
find_least : (p : ℕ → Bool) (a n x : ℕ) → find p (range_with_len a n) ≡ Some x → (a ≤ x) × (x < a + n) × ((d : ℕ) → a ≤ d → p d ≡ true → x ≤ d)
find_least p a zero x e = absurd (cc)
find_least p a (suc n) x e =
    elim (p a) as (λ b. p a ≡ b → cond b (Some a) (find p (range_with_len (a + 1) n)) ≡ Some x → (a ≤ x) × (x < a + suc n) × ((d : ℕ) → a ≤ d → p d ≡ true → x ≤ d)) [
      | true ↦ λ is some. let same : a ≡ x = cc in (omega arith, omega arith, λ d le passes. omega arith)
      | false ↦ λ is some.
          let rest = find_least p (a + 1) n x some in (
            omega (arith, rest.0),
            omega (arith, rest.1),
            λ d le passes.
                elim (cases_eq a d) [
                  | inl same ↦ absurd (true≢false (sym passes ∙ ap p (sym same) ∙ is))
                  | inr apart ↦ rest.2 d (omega arith) passes
                ],
          )
    ] refl e

below_power : (n : ℕ) → n < 2 ^ n
below_power zero = omega arith
below_power (suc n) = let ih = below_power n in rw (pow-suc 2 n) (omega arith)

module _ (mem n : ℕ) (some : 0 < mem) where
  enough : n ≤ mem * 2 ^ n
  enough =
      let low = below_power n in
      let more : 1 * 2 ^ n ≤ mem * 2 ^ n = mul-le-mul_right (2 ^ n) some in
      omega (arith, low, more)

  -- the least level from 1 on with room for n leads
  pub deep_least : (1 ≤ deep mem n) × (n ≤ mem * 2 ^ deep mem n) × ((d : ℕ) → 1 ≤ d → n ≤ mem * 2 ^ d → deep mem n ≤ d)
  unfolding deep
  deep_least =
      elim (option_cases (find (λ d. leb n (mem * 2 ^ d)) (range_with_len 1 n))) [
        | inr found ↦
            let least = find_least (λ d. leb n (mem * 2 ^ d)) 1 n found.0 found.1 in
            let passes = (find_some (λ d. leb n (mem * 2 ^ d)) (range_with_len 1 n) found.0 found.1).1 in
            let at : deep mem n ≡ found.0 = ap (λ (o : Option ℕ). unwrap_or o 1) found.1 in (
              omega (arith, at, least.0),
              subst (λ (x : ℕ). n ≤ mem * 2 ^ x) (sym at) (leb-true n (mem * 2 ^ found.0) passes),
              λ d le fits. let low = least.2 d le (le-leb n (mem * 2 ^ d) fits) in omega (arith, at, low),
            )
        | inl none ↦
            let at : deep mem n ≡ 1 = ap (λ (o : Option ℕ). unwrap_or o 1) none in
            elim (cases_lt 0 n) [
              | inl positive ↦
                  let no' = find_none (λ d. leb n (mem * 2 ^ d)) (range_with_len 1 n) n none (among_range 1 n n positive (omega arith)) in
                  absurd (true≢false (sym (le-leb n (mem * 2 ^ n) enough) ∙ no'))
              | inr nothing ↦ (omega (arith, at), omega arith, λ d le fits. omega (arith, at, le))
            ]
      ]
