use Rattle.strat_array.proofs.EntriesOnLemmas.{entries_on-kept}
use Rattle.strat_array.proofs.TakesLemmas.{used_agree}
use Rattle.strat_array.proofs.writer_laws.used_blocks_keep_their_bytes.Goals as goal

pub returns : goal.returns
returns c = record { ok = used_agree; same = λ blocks f g. entries_on-kept f g blocks }
