use Rattle.def_state.proofs.LiveLemmas.{live_at_child}
use Rattle.def_state.proofs.laws.live_keys_stay_live.Goals as goal

pub returns : goal.returns
returns c = λ parents entries key v child tree parent some. live_at_child parents tree entries key v child parent some
