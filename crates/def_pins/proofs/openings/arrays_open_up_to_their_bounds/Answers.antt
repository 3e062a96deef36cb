use Rattle.std.proofs.Common.{◌≡◌, ◌≤◌, ◌<◌, true, false, true≢false, sym, arith}
use Rattle.def_pins.proofs.openings.arrays_open_up_to_their_bounds.Goals as goal

-- a test that fails does not pass
failed : false ≡ true → ⊥
failed e = true≢false (sym e)

pub returns : goal.returns
returns c = record {
  zero = λ p. let le : 1 ≤ 0 = p.tested.0.each.0.numbered in omega (arith, le);
  next = λ p. let le : 65537 < 65537 = p.tested.0.each.0.below_next in omega (arith, le);
  tag = λ p. let le : 1 ≤ 0 = p.tested.0.each.0.tagged in omega (arith, le);
  order = λ p. failed p.tested.0.each.0.rising;
  entries = λ p. let le : 1 ≤ 0 = p.tested.0.each.0.counted in omega (arith, le);
  key = λ p. failed p.tested.0.each.0.sized;
  horizon = λ p. let le : 1 ≤ 0 = p.tested.0.aged in omega (arith, le);
  level = λ p. failed p.tested.0.ordered;
  distinct = λ p. failed p.distinct;
}
