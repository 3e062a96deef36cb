use Rattle.std.proofs.Common.{◌≡◌, Bool, ◌&&◌, true, false, replicate, [], ◌∷◌, map, None, Some, refl, sym, ap, ◌∙◌, true≢false}
use Rattle.strat_base.specs.Marks.{Marks, none_dropped, are_pruned}
use Rattle.strat_base.specs.Tree.{Parents}
use Rattle.strat_base.proofs.MarkLemmas.{living_at}
use Rattle.def_state.proofs.MarkLemmas.{pruned_test}
use Rattle.def_bytes.specs.Manifest.{all_pass, is_lawful_manifest}
use Rattle.def_pins.specs.Formats.{with_parents}
use Rattle.def_pins.proofs.formats.manifests_are_lawful_up_to_their_bounds.Goals as goal

parents : Parents
parents = None ∷ map (λ p. Some p) (replicate 16383 0)

marks : Marks
marks = replicate 16384 false

none : none_dropped marks ≡ true
unfolding marks
none = refl

-- where no version was dropped, none stands below a dropped one
pruned : are_pruned parents marks ≡ true
unfolding parents marks
pruned = pruned_test parents marks (record {
  len = refl;
  root = living_at marks none 0;
  down = λ v p parent dropped. absurd (true≢false (sym dropped ∙ living_at marks none p));
})

-- thirteen tests, of which the last is not computed
all_but : (last : Bool) → last ≡ true → all_pass (true ∷ true ∷ true ∷ true ∷ true ∷ true ∷ true ∷ true ∷ true ∷ true ∷ true ∷ true ∷ last ∷ []) ≡ true
unfolding all_pass
all_but last e = ap (λ (b : Bool). b && true) e

most : is_lawful_manifest 1 (with_parents (replicate 16383 0)) ≡ true
unfolding parents marks
most = all_but (are_pruned parents marks) pruned

more : is_lawful_manifest 1 (with_parents (replicate 16384 0)) ≡ false
unfolding all_pass
more = refl

pub returns-clause-versions : goal.returns-clause-versions
returns-clause-versions c = (most, more)
