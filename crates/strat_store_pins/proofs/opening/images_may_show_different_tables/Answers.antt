use Rattle.strat_store_pins.proofs.OpeningLemmas.{apart, each}
use Rattle.strat_store_pins.proofs.opening.images_may_show_different_tables.Goals as goal

pub returns : goal.returns
returns c = record { some = each; other = apart }
