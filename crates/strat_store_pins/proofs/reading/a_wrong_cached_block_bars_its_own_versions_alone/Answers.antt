use Rattle.strat_store_pins.proofs.AskingLemmas.{wrong_reads, wrong_reads_not}
use Rattle.strat_store_pins.proofs.reading.a_wrong_cached_block_bars_its_own_versions_alone.Goals as goal

pub returns : goal.returns
returns c = record { ok = wrong_reads; none = wrong_reads_not }
