use Rattle.std.proofs.Common.{refl}
use Rattle.strat_open.specs.Format.{head_for}
use Rattle.strat_store_pins.proofs.making.a_new_store_has_one_slot_and_one_region_open.Goals as goal

pub returns : goal.returns
returns c = record {
  ok = λ format mem changes versions image is. (is.slot, is.region);
  found = λ format mem changes versions image is. (head_for format mem changes versions, is.found, refl, refl, refl);
}
