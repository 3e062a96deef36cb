use Rattle.strat_store_pins.proofs.serving.an_array_that_was_published_was_named.Goals as goal

pub returns : goal.returns
returns g c = record {
  found = λ d e a was. (record { at = was.moment; from = was.since; till = was.till; left = was.was }, was.newest, was.chain, was.named);
}
