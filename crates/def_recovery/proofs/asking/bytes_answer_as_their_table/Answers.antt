use Rattle.def_recovery.proofs.AskedLemmas.{bytes_shown, asked_same}
use Rattle.def_recovery.proofs.asking.bytes_answer_as_their_table.Goals as goal

pub returns : goal.returns
returns c = record { same = bytes_shown; ok = asked_same }
