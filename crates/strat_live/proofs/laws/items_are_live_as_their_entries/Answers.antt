use Rattle.strat_live.proofs.GroupLemmas.{live_keyed}
use Rattle.strat_live.proofs.laws.items_are_live_as_their_entries.Goals as goal

pub returns : goal.returns
returns c = live_keyed
