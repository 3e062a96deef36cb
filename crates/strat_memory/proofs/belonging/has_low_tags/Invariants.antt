use Rattle.std.proofs.Common.{◌≡◌, drop, nat_lt}
use Rattle.std.specs.List.{flat_map, list_all}
use Rattle.strat_base.specs.declared.descriptors.ArrayDesc.{ArrayDesc}
use Rattle.strat_memory.proofs.belonging.has_low_tags.Given as goal

abbrev pub invariant-loop-array : goal.invariant-loop-array
invariant-loop-array l =
    list_all (λ v. nat_lt v l.level.horizon) (flat_map (λ (a : ArrayDesc). a.versions) (drop l.array-index l.arrays)) ≡ list_all (λ v. nat_lt v l.level.horizon) (flat_map (λ (a : ArrayDesc). a.versions) l.arrays)
