use Rattle.std.proofs.Common.{◌≡◌, ◌<◌, inl, inr, refl, subst, arith}
use Rattle.strat_base.specs.declared.descriptors.ArrayDesc.{ArrayDesc}
use Rattle.def_recovery.specs.Head.{descriptors}
use Rattle.def_publish.proofs.ListLemmas.{contained_among}
use Rattle.strat_publish.specs.Counting.{manifest_with_array}
use Rattle.strat_publish.proofs.publishing_laws.entries_of_new_arrays_are_counted.Goals as goal

pub returns : goal.returns
returns c = record {
  ok = record {
    raised = refl;
    others = λ a of old. elim (contained_among (descriptors (manifest_with_array 2 8 12)) a of) [
      | inl here ↦ absurd (let less : 2 < 2 = subst (λ (d : ArrayDesc). d.id < 2) here old in omega arith)
      | inr none ↦ absurd none
    ];
  };
  none = λ counts. let e : 11 ≡ 12 = counts.raised in absurd (omega (arith, e));
  same = λ counts. let e : 12 ≡ 4 = counts.raised in absurd (omega (arith, e));
}
