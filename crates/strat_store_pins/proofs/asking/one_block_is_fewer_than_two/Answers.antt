use Rattle.std.proofs.Common.{◌<◌, ◌^◌, length, refl, subst, sym, arith}
use Rattle.strat_base.specs.declared.descriptors.ArrayDesc.{ArrayDesc}
use Rattle.strat_cursor.proofs.PickLemmas.{only}
use Rattle.def_bytes.specs.Arrays.{blocks_of}
use Rattle.strat_store_pins.specs.Examples.{array_in}
use Rattle.strat_store_pins.proofs.asking.one_block_is_fewer_than_two.Goals as goal

pub returns : goal.returns
returns c = record {
  ok = λ a at. subst (λ (x : ArrayDesc). length (blocks_of x.extents) < 2 ^ 1) (sym (only (array_in 5 1 7) a at)) (let less : 1 < 2 = omega arith in less);
  none = λ few. let less : 1 < 1 = few (array_in 5 1 7) (0, omega arith, refl) in omega (arith, less);
}
