use Rattle.strat_live.proofs.CountingLaws.{live_grows_by_own}
use Rattle.strat_live.proofs.laws.live_keys_grow_by_own_items.Goals as goal

pub returns : goal.returns
returns c = λ parents groups v p tree some. live_grows_by_own parents tree groups v p some
