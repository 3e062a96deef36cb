use Rattle.def_meaning.proofs.StateTableLemmas.{read_same}
use Rattle.def_meaning.proofs.state_laws.reading_finds_the_tables_value.Goals as goal

pub returns : goal.returns
returns c = record { ok = read_same }
