-- The search for the level that a promotion fills.
use Rattle.std.proofs.Common.{◌≡◌, ℕ, ◌+◌, ◌*◌, ◌^◌, ◌<◌, ◌≤◌, List, length, get_or, sym, ap, ◌∙◌, ◌⊎◌, inl, inr, arith, add-one}
use Rattle.std.specs.List.{sum}
use Rattle.std.proofs.lemmas.Bool.{cases_eq}
use Rattle.std.proofs.lemmas.List.Sums.{sum_by_more, sum_by-take-le}
use Rattle.std.proofs.Math.Nat.{pow-succ', mul_comm, mul_assoc}
use Rattle.strat_level.specs.Target.{leads_down_to, room_of_level}

-- levels from 1 on that come before level j have no room
pub record IsSearched (leads : List ℕ) (mem j total room : ℕ) : Type 0 where
  pub deep : 1 ≤ j
  pub within : j ≤ 22
  pub total_is : total ≡ leads_down_to leads j
  pub room_is : room ≡ room_of_level mem j
  pub full : (k : ℕ) → 1 ≤ k → k < j → room_of_level mem k < leads_down_to leads k

-- the next of them has twice the room
pub room_doubles : (mem j : ℕ) → room_of_level mem (j + 1) ≡ room_of_level mem j * 2
room_doubles mem j = ap (λ (n : ℕ). mem * n) (rw add-one (pow-succ' 2 j ∙ mul_comm 2 (2 ^ j))) ∙ sym (mul_assoc mem (2 ^ j) 2)

-- level 22 has room for all
pub before_last : (leads : List ℕ) (mem j total room : ℕ) → length leads ≡ 23 → sum leads ≤ 2 ^ 24 → 4 ≤ mem → IsSearched leads mem j total room → room < total → j < 22
before_last leads mem j total room len few some s more =
    before (cases_eq j 22)
  where
    last_room : (mem : ℕ) → 4 ≤ mem → 2 ^ 24 ≤ room_of_level mem 22
    last_room mem some = omega arith

    before : (j ≡ 22) ⊎ (j ≡ 22 → ⊥) → j < 22
    before (inl e) =
        let all : leads_down_to leads 22 ≤ sum leads = sum_by-take-le (λ x. x) leads 23 in
        let there : total ≡ leads_down_to leads 22 = s.total_is ∙ ap (leads_down_to leads) e in
        let much : room ≡ room_of_level mem 22 = s.room_is ∙ ap (room_of_level mem) e in
        let room_all = last_room mem some in
        absurd (omega arith)
    before (inr e) = let within = s.within in omega (arith, e)

pub searched_more : (leads : List ℕ) (mem j total room d : ℕ) → length leads ≡ 23 → sum leads ≤ 2 ^ 24 → 4 ≤ mem → IsSearched leads mem j total room → room < total
    → IsSearched leads mem (j + 1) (total + get_or leads (j + 1) d) (room * 2)
searched_more leads mem j total room d len few some s more =
    let lt = before_last leads mem j total room len few some s more in
    record {
      deep = omega arith;
      within = omega arith;
      total_is = ap (λ (n : ℕ). n + get_or leads (j + 1) d) s.total_is ∙ sym (sum_by_more (λ x. x) leads (j + 1) d (omega arith));
      room_is = ap (λ (n : ℕ). n * 2) s.room_is ∙ sym (room_doubles mem j);
      full = λ k one less. full_more k one less (cases_eq k j);
    }
  where
    full_more : (k : ℕ) → 1 ≤ k → k < j + 1 → (k ≡ j) ⊎ (k ≡ j → ⊥) → room_of_level mem k < leads_down_to leads k
    full_more k one less (inl e) =
        let there : total ≡ leads_down_to leads k = s.total_is ∙ ap (leads_down_to leads) (sym e) in
        let much : room ≡ room_of_level mem k = s.room_is ∙ ap (room_of_level mem) (sym e) in
        omega arith
    full_more k one less (inr e) = s.full k one (omega (arith, e))
