use Rattle.std.proofs.lemmas.List.Sorted.{non_decreasing_from_is_sorted}
use Rattle.strat_promote.proofs.TagLemmas.{sorted_as_said}
use Rattle.strat_promote.proofs.tag.Tag.of.Goals as goal

pub invariant_of-result : goal.invariant_of-result
invariant_of-result c =
    record {
      rise = sorted_as_said c.args.versions.now c.in_ok-copy.copy.items c.is_sorted-is_sorted.result (c.in_ok-copy.ensures.items_if_clones_equal (λ y z same. same))
          (non_decreasing_from_is_sorted c.args.versions.now c.is_sorted-is_sorted.result c.is_sorted-is_sorted.ensures.cases);
    }
