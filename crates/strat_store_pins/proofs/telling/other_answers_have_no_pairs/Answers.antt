use Rattle.std.proofs.Common.{◌≤◌, refl, arith}
use Rattle.strat_store_pins.proofs.telling.other_answers_have_no_pairs.Goals as goal

pub returns : goal.returns
returns c = record {
  ok = (refl, refl);
  none = ((λ has. cc), (λ has. cc), (λ has. let le : 1 ≤ 0 = has.0 in omega (arith, le)));
}
