use Rattle.std.proofs.Common.{◌≡◌, take}
use Rattle.std.specs.List.{flat_map}
use Rattle.strat_base.specs.declared.descriptors.ArrayDesc.{ArrayDesc}
use Rattle.strat_check.specs.LevelNumbers.{marked_with}
use Rattle.strat_check.proofs.level_rules.mark_tags.Given as goal

abbrev pub invariant-loop-array : goal.invariant-loop-array
invariant-loop-array l = l.marks ≡ marked_with l.fn.marks (flat_map (λ (a : ArrayDesc). a.versions) (take l.array-index l.arrays))
