use Rattle.def_publish.proofs.FreeLemmas.{one_table}
use Rattle.strat_loop.proofs.BeginLemmas.{begins_there}
use Rattle.strat_loop.proofs.laws.a_run_begins_where_the_last_one_was_cut_off.Goals as goal

pub returns : goal.returns
returns c = record { one = one_table; ok = begins_there }
