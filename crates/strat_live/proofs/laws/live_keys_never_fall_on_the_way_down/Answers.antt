use Rattle.strat_live.proofs.CountingLaws.{live_grows}
use Rattle.strat_live.proofs.laws.live_keys_never_fall_on_the_way_down.Goals as goal

pub returns : goal.returns
returns c = λ parents groups v p tree some. live_grows parents tree groups v p some
