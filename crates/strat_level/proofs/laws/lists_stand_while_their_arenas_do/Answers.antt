use Rattle.strat_level.proofs.PutLemmas.{stands_while, memtable_stands_while}
use Rattle.strat_level.proofs.laws.lists_stand_while_their_arenas_do.Goals as goal

pub returns : goal.returns
returns c = record { ok = stands_while; kept = memtable_stands_while }
