use Rattle.std.proofs.Common.{◌≡◌, ◌<◌, [], ◌∷◌, inl, inr, refl, ap, arith}
use Rattle.strat_base.specs.declared.descriptors.ArrayDesc.{ArrayDesc}
use Rattle.def_recovery.specs.Head.{descriptors}
use Rattle.def_publish.proofs.ListLemmas.{contained_among}
use Rattle.strat_publish.specs.Counting.{manifest_with_array}
use Rattle.strat_store_pins.proofs.settling.arrays_of_before_are_left_as_they_were.Goals as goal

abbrev new_array : ArrayDesc
new_array = record { id = 1; entries = 8; leads = 8; least = 8; versions = 0 ∷ []; extents = [] }

pub returns : goal.returns
returns c = record {
  none = λ counts.
      elim (contained_among (descriptors (manifest_with_array 1 4 4)) new_array (counts.others new_array (0, omega arith, refl) (let less : 1 < 2 = omega arith in less))) [
        | inl here ↦ let e : 8 ≡ 4 = ap (λ (a : ArrayDesc). a.entries) here in omega (arith, e)
        | inr none ↦ none
      ];
}
