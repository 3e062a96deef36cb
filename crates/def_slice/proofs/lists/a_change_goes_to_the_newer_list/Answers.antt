use Rattle.def_slice.proofs.ListLemmas.{lists_set, lists_kept, lists_room}
use Rattle.def_slice.proofs.lists.a_change_goes_to_the_newer_list.Goals as goal

pub returns : goal.returns
returns c' = record {
  room = lists_room;
  update = λ mem journal entries sealed spare c e is h room. lists_set mem journal c entries sealed spare e is h room;
  other = λ mem journal entries sealed spare c is h room. lists_kept mem journal c entries sealed spare is h room;
}
