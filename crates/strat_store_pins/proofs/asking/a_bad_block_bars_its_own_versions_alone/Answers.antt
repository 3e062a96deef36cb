use Rattle.std.proofs.Common.{[], ◌∷◌, refl, ap, ◌∙◌}
use Rattle.strat_model.specs.Step.{found}
use Rattle.strat_store_pins.proofs.AskingLemmas.{filtered_is, one_reads, two_reads_not}
use Rattle.strat_store_pins.proofs.asking.a_bad_block_bars_its_own_versions_alone.Goals as goal

pub returns : goal.returns
returns c = record {
  ok = one_reads;
  none = two_reads_not;
  found = λ answer tells. (tells.1 refl).1 one_reads ∙ ap (found (97 ∷ [])) (filtered_is (97 ∷ []));
}
