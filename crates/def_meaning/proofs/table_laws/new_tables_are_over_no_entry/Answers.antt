use Rattle.def_meaning.proofs.TableOverLemmas.{fresh_over}
use Rattle.def_meaning.proofs.table_laws.new_tables_are_over_no_entry.Goals as goal

pub returns : goal.returns
returns c = fresh_over
