use Rattle.strat_report.proofs.FractionLemmas.{fractions_said}
use Rattle.strat_report.proofs.laws.printed_fractions_are_those_of_the_arrays.Goals as goal

pub returns : goal.returns
returns c = record {
  ok = λ image h s read sound. (fractions_said image h s read sound).0;
  found = λ image h s read sound. (fractions_said image h s read sound).1;
}
