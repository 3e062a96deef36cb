use Rattle.std.proofs.Common.{◌≡◌, length, IsTrue}
use Rattle.std.specs.List.{flat_map}
use Rattle.strat_base.specs.declared.descriptors.ArrayDesc.{ArrayDesc}
use Rattle.def_state.specs.Level.{is_distinct}
use Rattle.strat_check.proofs.OwnerLemmas.{AreOwnersTo}
use Rattle.strat_check.proofs.owners.owners_of.Given as goal

abbrev pub invariant-loop-i : goal.invariant-loop-i
invariant-loop-i l =
    (length l.owners.items ≡ l.versions)
    × (IsTrue (is_distinct (flat_map (λ (a : ArrayDesc). a.versions) l.arrays)) → AreOwnersTo (λ (a : ArrayDesc). a.versions) l.arrays l.i l.owners.items)
