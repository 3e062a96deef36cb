use Rattle.strat_store_pins.proofs.AskingLemmas.{a_read, b_reads_none, filtered_tells, keeps_five, keeps_not_six}
use Rattle.strat_store_pins.proofs.asking.a_filter_that_refuses_a_key_spares_its_read.Goals as goal

pub returns : goal.returns
returns c = record {
  reads = b_reads_none;
  ok = a_read;
  found = filtered_tells;
  kept = (keeps_five, keeps_not_six);
}
