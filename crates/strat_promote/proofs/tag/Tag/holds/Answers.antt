use Rattle.std.proofs.Common.{◌∙◌, ℕ, List, subst}
use Rattle.std.specs.List.Sorted.{IsNonDecreasing, IsBinarySearchResult}
use Rattle.std.specs.Ordering.{nat_cmp}
use Rattle.strat_promote.proofs.TagLemmas.{tagged_if_found}
use Rattle.strat_promote.proofs.tag.Tag.holds.Goals as goal

pub returns-then-self : goal.returns-then-self
returns-then-self c = record {
  ok = c.is_ok.ensures.value
      ∙ tagged_if_found c.args.self.now c.args.version c.binary_search.result
      (subst IsNonDecreasing c.self.view_is (c.self.invariant.rise c.if-self.true))
      (subst (λ (xs : List ℕ). IsBinarySearchResult (λ y. nat_cmp y c.args.version) xs c.binary_search.result) (c.deref.ensures.value ∙ c.self.view_is) c.binary_search.ensures.position);
}
