use Rattle.def_texts.proofs.TextLemmas.{numbers_same, runs_filled, runs_separate}
use Rattle.def_texts.proofs.texts.runs_are_the_longest.Goals as goal

pub returns : goal.returns
returns c = record { same = numbers_same; some = runs_filled; apart = runs_separate }
