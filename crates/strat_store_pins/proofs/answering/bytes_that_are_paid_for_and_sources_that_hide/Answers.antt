use Rattle.strat_store_pins.proofs.answering.bytes_that_are_paid_for_and_sources_that_hide.Goals as goal

pub returns : goal.returns
returns c = record {
  paid = λ f s paid reads. paid s reads;
  none = λ before now taken took. took.hidden;
}
