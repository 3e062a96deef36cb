use Rattle.strat_array.proofs.TakesLemmas.{used_once_taken, used_stay, taken_stay}
use Rattle.strat_array.proofs.writer_laws.taken_blocks_are_used.Goals as goal

pub returns : goal.returns
returns c = record { ok = used_once_taken; same = used_stay; none = taken_stay }
