use Rattle.def_meaning.proofs.TableOverLemmas.{set_stands, clone_stands, drop_stands}
use Rattle.def_meaning.proofs.table_laws.changed_tables_are_over_changed_entries.Goals as goal

pub returns : goal.returns
returns c = record {
  ok = λ parents marks entries t after e over known rows. set_stands parents marks entries t over e known after rows;
  same = λ parents marks entries t after p over there rows. clone_stands parents marks entries t over p there after rows;
  dropped = λ parents marks entries t after v over there apart rows. drop_stands parents marks entries t over v there apart after rows;
}
