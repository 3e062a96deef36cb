use Rattle.def_meaning.proofs.TableOverLemmas.{put_over, delete_over, clone_is_over, drop_is_over, get_is_over, info_is_over, stat_is_over}
use Rattle.def_meaning.proofs.table_laws.commands_follow_tree_and_entries.Goals as goal

pub returns : goal.returns
returns c = record {
  put = λ parents marks entries t v key value over. put_over parents marks entries t over v key value;
  delete = λ parents marks entries t v key over. delete_over parents marks entries t over v key;
  clone = λ parents marks entries t p over. clone_is_over parents marks entries t over p;
  drop = λ parents marks entries t v over. drop_is_over parents marks entries t over v;
  get = λ parents marks entries t v key over. get_is_over parents marks entries t over v key;
  info = λ parents marks entries t v over. info_is_over parents marks entries t over v;
  stat = λ parents marks entries t over. stat_is_over parents marks entries t over;
}
