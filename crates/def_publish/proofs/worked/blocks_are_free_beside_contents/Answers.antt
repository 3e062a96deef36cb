use Rattle.std.proofs.Common.{[], ◌∷◌, refl, arith, inl, inr, true≢false}
use Rattle.def_publish.proofs.ListLemmas.{among_contained}
use Rattle.def_publish.proofs.WorkedLemmas.{free_before, free_after}
use Rattle.def_publish.proofs.worked.blocks_are_free_beside_contents.Goals as goal

pub returns : goal.returns
returns c = record {
  old = refl;
  new = refl;
  before = free_before;
  after = free_after;
  manifest = λ a. true≢false (a.unnamed 6 (among_contained (6 ∷ []) 6 (inl refl)));
  array = λ a. true≢false (a.unnamed 7 (among_contained (8 ∷ 7 ∷ []) 7 (inr (inl refl))));
  chain = λ a. true≢false (a.unnamed 8 (among_contained (8 ∷ 7 ∷ []) 8 (inl refl)));
  journal = λ a. true≢false (a.behind 5 (omega arith));
}
