use Rattle.std.proofs.Common.{◌≡◌, refl, arith}
use Rattle.strat_store_pins.proofs.telling.a_key_has_one_pair_where_it_was_found.Goals as goal

pub returns : goal.returns
returns c = record {
  found = (let one : 1 ≡ 1 = refl in one, λ has. let is : 0 ≡ 1 = has in omega (arith, is));
  more = λ has. let is : 2 ≡ 1 = has in omega (arith, is);
  none = (refl, λ has. cc);
  err = λ has. cc;
}
