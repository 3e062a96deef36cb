use Rattle.strat_split.proofs.TakenLemmas.{live_taken}
use Rattle.strat_split.proofs.laws.what_is_live_in_a_part_is_taken.Goals as goal

pub returns : goal.returns
returns c = λ parents own live plan items v item tree split lt is_part lives. live_taken parents tree own live plan split items item v lt is_part lives
