use Rattle.strat_promote.proofs.ReplacingLemmas.{made_promotes, made_read}
use Rattle.strat_promote.proofs.laws.groups_of_a_made_level_are_promoted.Goals as goal

pub returns : goal.returns
returns c = record {
  promotes = λ f g s j first taken kept job made m of takes. made_promotes f g s j first taken kept job made m of takes;
  read = λ f g s j first taken kept job made m of sound. made_read f g s j first taken kept job made m of sound;
}
