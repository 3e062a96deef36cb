-- The budget of slices, and that the last one comes in time.
use Rattle.std.proofs.Common.{◌≡◌, ◌≤◌, ◌<◌, inl, inr, ◌+◌, ◌-◌, ◌*◌, ◌^◌, ℕ, Bool, true, false, cond, eqb, List, [], ◌∷◌, length, refl, sym, ap, ◌∙◌, arith}
use Rattle.std.specs.Int.{div_ceil}
use Rattle.std.specs.Prelude.{max}
use Rattle.std.proofs.lemmas.Bool.{eqb-true, eq-eqb, cases_lt, true≢false}
use Rattle.std.proofs.lemmas.Grind.{div_ceil_times}
use Rattle.std.proofs.Math.Nat.{mul-le-mul_right, add-mul, mul-add}
use Rattle.def_slice.specs.Budget.{changes_left, IsBudget, budget_for, IsOnTime, EndsInTime, LeaveOpen}

times_one : (n k : ℕ) → 1 ≤ n → k ≤ n * k
times_one n k some = let more = mul-le-mul_right {m = 1} {n = n} k some in omega (arith, more)

most : (n : ℕ) → (1 ≤ max 1 n) × (n ≤ max 1 n) × ((m : ℕ) → 1 ≤ m → n ≤ m → max 1 n ≤ m)
most n = (omega arith, omega arith, λ m some le. omega (arith, some, le))

-- rounding up gives the least multiple
up_least : (a d n : ℕ) → 0 < d → a ≤ n * d → div_ceil a d ≤ n
up_least a d n some le =
    let q : ℕ = div_ceil a d in
    let both = div_ceil_times a d some in
    elim (cases_lt n q) [
      | inr within ↦ omega (arith, within)
      | inl more ↦
          let one = mul-le-mul_right {m = n + 1} {n = q} d (omega (arith, more)) in
          let split = add-mul n 1 d in
          absurd (omega (arith, one, split, both.1, le))
    ]

pub computed : (mem fill sum : ℕ) → IsBudget mem fill sum (budget_for mem fill sum)
computed mem fill sum = by_test (eqb (changes_left mem fill) 0) refl
  where
    by_test : (b : Bool) → eqb (changes_left mem fill) 0 ≡ b → IsBudget mem fill sum (cond b (2 ^ 63) (max 1 (div_ceil (2 * sum) (changes_left mem fill))))
    by_test true none =
        let zero_left : changes_left mem fill ≡ 0 = eqb-true (changes_left mem fill) 0 none in
        record {
          some = omega arith;
          enough = λ some. absurd (omega (arith, some, zero_left));
          least = λ some. absurd (omega (arith, some, zero_left));
          last = λ e. refl;
        }
    by_test false some =
        let d : ℕ = changes_left mem fill in
        let q : ℕ = div_ceil (2 * sum) d in
        let left : 0 < d = elim (cases_lt 0 d) [ inl lt ↦ lt | inr le ↦ absurd (true≢false (sym (eq-eqb d 0 (omega (arith, le))) ∙ some)) ] in
        let m = most q in
        let both = div_ceil_times (2 * sum) d left in
        let wider = mul-le-mul_right {m = q} {n = max 1 q} d m.1 in
        record {
          some = m.0;
          enough = λ lt. omega (arith, both.0, wider);
          least = λ lt n one le. m.2 n one (up_least (2 * sum) d n left le);
          last = λ e. absurd (omega (arith, left, e));
        }

-- no other budget is the least
pub only_budget : (mem fill sum b : ℕ) → IsBudget mem fill sum b → b ≡ budget_for mem fill sum
only_budget mem fill sum b is =
    let made = computed mem fill sum in
    elim (cases_lt 0 (changes_left mem fill)) [
      | inl some ↦
          let below = is.least some (budget_for mem fill sum) made.some (made.enough some) in
          let above = made.least some b is.some (is.enough some) in
          omega (arith, below, above)
      | inr none ↦
          let zero_left : changes_left mem fill ≡ 0 = omega (arith, none) in
          is.last zero_left ∙ sym (made.last zero_left)
    ]

pub begun : (mem fill sum b : ℕ) → IsBudget mem fill sum b → sum ≤ 2 ^ 24 → EndsInTime mem fill sum b 0
begun mem fill sum b is few = elim (cases_lt 0 (changes_left mem fill)) [
  | inl some ↦ inl (let le = is.enough some in omega (arith, le))
  | inr none ↦ inr (let big = is.last (omega (arith, none)) in omega (arith, big, few))
]

-- no change left: then this slice takes all
pub last_takes_all : (mem fill sum b taken next : ℕ) → EndsInTime mem fill sum b taken → changes_left mem fill ≡ 0 → taken + b ≤ next → 2 * sum ≤ next
last_takes_all mem fill sum b taken next may none le = elim may [
  | inr all ↦ omega (arith, all, le)
  | inl on_time ↦
      let nothing : b * changes_left mem fill ≡ b * 0 = ap (λ (n : ℕ). b * n) none in
      omega (arith, on_time, nothing, le)
]

pub goes_on : (mem fill sum b taken next : ℕ) → EndsInTime mem fill sum b taken → taken + b ≤ next → next < 2 * sum → (fill + 1 ≤ 2 * mem - 2) × IsOnTime mem (fill + 1) sum b next
goes_on mem fill sum b taken next may le lt = elim (cases_lt 0 (changes_left mem fill)) [
  | inr none ↦ absurd (let all = last_takes_all mem fill sum b taken next may (omega (arith, none)) le in omega (arith, all, lt))
  | inl some ↦ elim may [
    | inr all ↦ absurd (omega (arith, all, le, lt))
    | inl on_time ↦
        let less : changes_left mem fill ≡ changes_left mem (fill + 1) + 1 = omega (arith, some) in
        let split : b * changes_left mem fill ≡ b * changes_left mem (fill + 1) + b * 1 = ap (λ (n : ℕ). b * n) less ∙ mul-add b (changes_left mem (fill + 1)) 1 in
        (omega (arith, some), omega (arith, on_time, split, le))
  ]
]

open_on_time : (mem fill sum b taken : ℕ) (counts : List ℕ) → fill ≤ 2 * mem - 2 → EndsInTime mem fill sum b taken → LeaveOpen sum b taken counts → fill + length counts ≤ 2 * mem - 2
open_on_time mem fill sum b taken [] high may all = omega (arith, high)
open_on_time mem fill sum b taken (next ∷ later) high may all =
    let on = goes_on mem fill sum b taken next may all.0 all.1 in
    let rest = open_on_time mem (fill + 1) sum b next later on.0 (inl on.1) all.2 in
    omega (arith, rest)

pub in_time : (mem fill sum b : ℕ) (counts : List ℕ) → fill ≤ 2 * mem - 2 → IsBudget mem fill sum b → sum ≤ 2 ^ 24 → LeaveOpen sum b 0 counts → fill + length counts ≤ 2 * mem - 2
in_time mem fill sum b counts high is few all = open_on_time mem fill sum b 0 counts high (begun mem fill sum b is few) all
