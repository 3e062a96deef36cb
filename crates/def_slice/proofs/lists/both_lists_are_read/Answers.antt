use Rattle.def_slice.proofs.ListLemmas.{lists_look, lists_asked}
use Rattle.def_slice.proofs.lists.both_lists_are_read.Goals as goal

pub returns : goal.returns
returns c = record { read = lists_look; asked = lists_asked }
