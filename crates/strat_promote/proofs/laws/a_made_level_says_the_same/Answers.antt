use Rattle.strat_promote.proofs.ReplacingLemmas.{made_leaves, made_leaves_later}
use Rattle.strat_promote.proofs.laws.a_made_level_says_the_same.Goals as goal

pub returns : goal.returns
returns c = record {
  says = λ f g s j first taken kept job made sound takes of m. made_leaves f g s j first taken kept job made m of sound takes;
  later = λ f g s before rest j first taken kept job made sound parts takes of m. made_leaves_later f g s before rest j first taken kept job made m of sound parts takes;
}
