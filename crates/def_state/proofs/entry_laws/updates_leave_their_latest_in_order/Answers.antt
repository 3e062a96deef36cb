use Rattle.std.proofs.Common.{[]}
use Rattle.def_state.specs.Setting.{set_entry}
use Rattle.strat_base.proofs.ListFacts.{fold-push}
use Rattle.def_state.proofs.UpdateLemmas.{all_ascending, all_latest, all_lives}
use Rattle.def_state.proofs.entry_laws.updates_leave_their_latest_in_order.Goals as goal

pub returns : goal.returns
returns c = record {
  kept = all_ascending;
  ok = λ updates e. fold-push (λ entries d. set_entry d entries) [] updates e;
  found = λ updates key u. all_latest key u updates;
  same = λ parents updates v key tree. all_lives parents tree updates v key;
}
