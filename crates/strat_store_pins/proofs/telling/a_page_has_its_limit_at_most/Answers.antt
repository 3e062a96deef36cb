use Rattle.std.proofs.Common.{◌≡◌, ◌≤◌, refl, sym, true≢false, arith}
use Rattle.strat_store_pins.proofs.telling.a_page_has_its_limit_at_most.Goals as goal

-- two are more than one
two : 2 ≤ 1 → ⊥
two le = omega (arith, le)

pub returns : goal.returns
returns c = record {
  scan = (
    (let le : 1 ≤ 2 = omega arith in le, λ on. absurd (true≢false (sym on))),
    (λ has. let is : 1 ≡ 2 = has.1 refl in omega (arith, is)),
    (λ has. two has.0),
  );
  next = (
    (let le : 1 ≤ 1 = omega arith in le, λ on. refl),
    (λ has. let is : 0 ≡ 1 = has.1 refl in omega (arith, is)),
    (λ has. two has.0),
  );
}
