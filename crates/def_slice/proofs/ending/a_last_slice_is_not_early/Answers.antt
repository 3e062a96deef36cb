use Rattle.def_slice.proofs.LastLemmas.{done_late, done_in_budget}
use Rattle.def_slice.proofs.ending.a_last_slice_is_not_early.Goals as goal

pub returns : goal.returns
returns c = record { late = done_late; budget = λ f g x fill sealed levels others o q inputs most p s. done_in_budget f g x fill sealed levels others o q inputs p s most }
