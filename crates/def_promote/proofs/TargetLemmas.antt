-- The level that a promotion goes to, found by the numbers of leads alone.
use Rattle.std.proofs.Common.{◌≡◌, ◌<◌, ◌≤◌, ◌+◌, ◌*◌, ◌^◌, ℕ, zero, suc, Bool, cond, eqb, leb, inl, inr, List, [], ◌∷◌, length, filter, refl, ap, arith}
use Rattle.std.specs.List.{sum_by, range_with_len}
use Rattle.std.proofs.lemmas.Bool.{eq-eqb, ne_eqb, le-leb, lt-leb, cases_eq, cases_lt}
use Rattle.std.proofs.lemmas.List.Sums.{sum_by-cons}
use Rattle.def_state.specs.Level.{Level}
use Rattle.def_state.specs.Reading.{level_zero}
use Rattle.def_state.specs.State.{State}
use Rattle.def_state.specs.Sound.{IsOrdered}
use Rattle.strat_base.proofs.ListFacts.{Among}
use Rattle.def_split.proofs.ListLemmas.{filter_none}
use Rattle.def_promote.specs.Promoted.{levels_to, levels_behind, Takeable}
use Rattle.def_promote.specs.Paid.{leads_at, IsLeastTarget}
use Rattle.def_promote.proofs.CutLemmas.{numbered_deep, takeable}
use Rattle.def_promote.proofs.PaidLemmas.{count, sum_filter}

-- the leads of the levels down to one, and of the next
sum_both : {X : Type 0} (f g h : X → ℕ) (xs : List X) → ((x : X) → Among x xs → f x + g x ≡ h x) → sum_by f xs + sum_by g xs ≡ sum_by h xs
sum_both f g h [] each = refl
sum_both f g h (x ∷ xs) each =
    let here = each x (inl refl) in
    let rest = sum_both f g h xs (λ y among. each y (inr among)) in
    let left = sum_by-cons f x xs in
    let middle = sum_by-cons g x xs in
    let right = sum_by-cons h x xs in
    omega arith

next_term : (c n j : ℕ) → cond (leb n j) c 0 + cond (eqb n (j + 1)) c 0 ≡ cond (leb n (j + 1)) c 0
next_term c n j =
    elim (cases_lt j n) [
      | inr low ↦
          let first = ap {B = ℕ} (λ (b : Bool). cond b c 0) (le-leb n j low) in
          let second = ap {B = ℕ} (λ (b : Bool). cond b c 0) (ne_eqb n (j + 1) (λ same. omega (arith, same, low))) in
          let third = ap {B = ℕ} (λ (b : Bool). cond b c 0) (le-leb n (j + 1) (omega (arith, low))) in
          omega (arith, first, second, third)
      | inl high ↦
          let first = ap {B = ℕ} (λ (b : Bool). cond b c 0) (lt-leb n j high) in
          elim (cases_eq n (j + 1)) [
            | inl same ↦
                let second = ap {B = ℕ} (λ (b : Bool). cond b c 0) (eq-eqb n (j + 1) same) in
                let third = ap {B = ℕ} (λ (b : Bool). cond b c 0) (le-leb n (j + 1) (omega (arith, same))) in
                omega (arith, first, second, third)
            | inr apart ↦
                let second = ap {B = ℕ} (λ (b : Bool). cond b c 0) (ne_eqb n (j + 1) apart) in
                let third = ap {B = ℕ} (λ (b : Bool). cond b c 0) (lt-leb n (j + 1) (omega (arith, high, apart))) in
                omega (arith, first, second, third)
          ]
    ]

leads_next : (j : ℕ) (levels : List Level) → sum_by count (levels_to j levels) + sum_by count (filter (λ level. eqb level.number (j + 1)) levels) ≡ sum_by count (levels_to (j + 1) levels)
leads_next j levels =
    let first = sum_filter (λ (level : Level). leb level.number j) count levels in
    let second = sum_filter (λ (level : Level). eqb level.number (j + 1)) count levels in
    let third = sum_filter (λ (level : Level). leb level.number (j + 1)) count levels in
    let all = sum_both (λ (level : Level). cond (leb level.number j) (count level) 0) (λ level. cond (eqb level.number (j + 1)) (count level) 0) (λ level. cond (leb level.number (j + 1)) (count level) 0) levels
    (λ level among. next_term (count level) level.number j) in
    omega (arith, first, second, third, all)

-- a longer range ends with the next number
pub range_push : (f : ℕ → ℕ) (a n : ℕ) → sum_by f (range_with_len a (suc n)) ≡ sum_by f (range_with_len a n) + f (a + n)
range_push f a zero = let same : f (a + 0) ≡ f a = ap f (omega arith) in let one = sum_by-cons f a [] in omega (arith, same, one)
range_push f a (suc n) =
    let rest = range_push f (a + 1) n in
    let first = sum_by-cons f a (range_with_len (a + 1) (suc n)) in
    let second = sum_by-cons f a (range_with_len (a + 1) n) in
    let same : f ((a + 1) + n) ≡ f (a + suc n) = ap f (omega arith) in
    omega (arith, rest, first, second, same)

module _ (s : State) (sound : IsOrdered s) where
  -- the numbers of leads add up
  pub leads_add_up : (j : ℕ) → sum_by (leads_at s) (range_with_len 0 (suc j)) ≡ length (level_zero s) + sum_by count (levels_to j s.levels)
  leads_add_up zero =
      let one = sum_by-cons (leads_at s) 0 [] in
      let low : (level : Level) → Among level s.levels → 1 ≤ level.number = λ level among. numbered_deep 1 s.levels sound.formed.numbered level among in
      let none = ap (λ (levels : List Level). sum_by count levels) (filter_none (λ (level : Level). eqb level.number 0) s.levels (λ level among. ne_eqb level.number 0 (λ same. let le = low level among in omega (arith, same, le)))) in
      let cut = ap (λ (levels : List Level). sum_by count levels) (filter_none (λ (level : Level). leb level.number 0) s.levels (λ level among. lt-leb level.number 0 (let le = low level among in omega (arith, le)))) in
      omega (arith, one, none, cut)
  leads_add_up (suc j) =
      let rest = leads_add_up j in
      let more = range_push (leads_at s) 0 (suc j) in
      let next = leads_next j s.levels in
      let at = place (0 + suc j) (omega arith) in
      let number : 0 + suc j ≡ j + 1 = omega arith in
      let same = ap (λ (i : ℕ). sum_by count (filter (λ level. eqb level.number i) s.levels)) number in
      let to : j + 1 ≡ suc j = omega arith in
      let cut = ap (λ (i : ℕ). sum_by count (levels_to i s.levels)) to in
      omega (arith, rest, more, next, at, same, cut)
    where
      place : (i : ℕ) → 1 ≤ i → leads_at s i ≡ sum_by count (filter (λ level. eqb level.number i) s.levels)
      place i some =
          let none = ap {B = ℕ} (λ (b : Bool). cond b (length (level_zero s)) 0) (ne_eqb i 0 (λ same. omega (arith, same, some))) in
          omega (arith, none)

  -- the least number with room is a target
  pub least_target : (j : ℕ) → 1 ≤ j → j ≤ 22 → sum_by (leads_at s) (range_with_len 0 (suc j)) ≤ s.mem * 2 ^ j
      → ((i : ℕ) → 1 ≤ i → i < j → s.mem * 2 ^ i < sum_by (leads_at s) (range_with_len 0 (suc i))) → (j ≡ 1 → s.mem ≤ length s.journal)
      → Takeable s j (levels_to j s.levels) (levels_behind j s.levels) × IsLeastTarget s j
  least_target j least most room crowded full =
      let sum = leads_add_up j in (
        takeable s sound j least most (omega (arith, room, sum)),
        record {
          full = full;
          crowded = λ i low lt. let less = crowded i low lt in let total = leads_add_up i in omega (arith, less, total);
        },
      )
