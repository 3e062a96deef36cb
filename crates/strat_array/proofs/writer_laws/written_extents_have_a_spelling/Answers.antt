use Rattle.strat_array.proofs.SpellingLemmas.{maximal_lawful, maximal_apart}
use Rattle.strat_array.proofs.writer_laws.written_extents_have_a_spelling.Goals as goal

pub returns : goal.returns
returns c = record { ok = maximal_lawful; same = maximal_apart }
