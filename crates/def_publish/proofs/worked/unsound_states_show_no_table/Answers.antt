use Rattle.def_publish.proofs.WorkedLemmas.{no_table}
use Rattle.def_publish.proofs.worked.unsound_states_show_no_table.Goals as goal

pub returns : goal.returns
returns c = no_table
