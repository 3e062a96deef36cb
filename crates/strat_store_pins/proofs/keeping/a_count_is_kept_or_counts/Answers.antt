use Rattle.std.proofs.Common.{◌≡◌, ◌≢◌, ◌<◌, ℕ, inl, inr, refl, ap, subst, arith}
use Rattle.strat_base.specs.declared.descriptors.ArrayDesc.{ArrayDesc}
use Rattle.def_bytes.specs.Manifest.{Manifest}
use Rattle.def_recovery.specs.Head.{descriptors}
use Rattle.def_publish.proofs.ListLemmas.{contained_among}
use Rattle.strat_publish.specs.Counting.{KeepsCount, manifest_with_array}
use Rattle.strat_store_pins.proofs.keeping.a_count_is_kept_or_counts.Goals as goal

-- no other number takes the place of four and eight
refused : (n : ℕ) → n ≢ 4 → n ≢ 12 → KeepsCount (manifest_with_array 1 4 4) (manifest_with_array 2 8 n) → ⊥
refused n first second (inl same) = let e : n ≡ 4 = ap (λ (m : Manifest). m.written) same in first e
refused n first second (inr counts) = let e : n ≡ 12 = counts.raised in second e

pub returns : goal.returns
returns c = record {
  same = inl refl;
  ok = inr (record {
    raised = refl;
    others = λ a of old. elim (contained_among (descriptors (manifest_with_array 2 8 12)) a of) [
      | inl here ↦ absurd (let less : 2 < 2 = subst (λ (d : ArrayDesc). d.id < 2) here old in omega arith)
      | inr none ↦ absurd none
    ];
  });
  few = refused 11 (λ e. omega (arith, e)) (λ e. omega (arith, e));
  more = refused 13 (λ e. omega (arith, e)) (λ e. omega (arith, e));
}
