use Rattle.strat_store_pins.proofs.opening.an_opening_leaves_the_content_but_for_a_shut_gate.Goals as goal

pub returns : goal.returns
returns g c = record {
  images = λ d e s f image opened exposed left. opened.alone f exposed image left;
  none = λ d e s f image opened exposed left room. opened.shut f exposed room image left;
}
