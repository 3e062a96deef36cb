use Rattle.strat_store_pins.proofs.opening.a_store_that_was_opened_holds_what_recovery_finds.Goals as goal

pub returns : goal.returns
returns g c = record {
  found = λ d e s f opened exposed. (opened.found f exposed, (opened.gate f exposed).newest, opened.chain f exposed);
  none = λ d e s opened. (opened.going, opened.closed);
  state = λ d e s opened. opened.unfiltered;
  images = λ d e s f image opened exposed since. (opened.gate f exposed).images image since;
}
