use Rattle.strat_promote.proofs.StateInputsLemmas.{begun_paid}
use Rattle.strat_promote.proofs.state_laws.a_promotion_of_a_state_is_paid_for.Goals as goal

pub returns : goal.returns
returns c = λ f h g s inputs p q first made sound paid some honest over full same agree m. begun_paid f s inputs p sound over h g q first made same agree m paid some honest full
