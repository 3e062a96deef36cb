use Rattle.strat_store_pins.proofs.opening.an_opening_that_stopped_leaves_its_table.Goals as goal

pub returns : goal.returns
returns g c = record {
  same = λ d e f t stops shows. stops.follows t shows;
  images = λ d e f image stops since. (stops.gate.newest, stops.gate.images image since);
}
