use Rattle.strat_split.proofs.CarrierLemmas.{live_in_carrier}
use Rattle.strat_split.proofs.laws.what_is_live_in_a_part_is_found_among_what_it_takes.Goals as goal

pub returns : goal.returns
returns c = λ parents own live plan items v item tree split down lt is_part. live_in_carrier parents tree own live plan split items down v lt is_part item
