use Rattle.def_state.proofs.SoundLemmas.{ordered}
use Rattle.strat_promote.proofs.StateInputsLemmas.{begun_leaves, begun_leaves_later}
use Rattle.strat_promote.proofs.state_laws.a_promotion_of_a_state_says_the_same.Goals as goal

pub returns : goal.returns
returns c = record {
  says = λ f h g s inputs p q first made sound over same agree m. begun_leaves f s inputs p (ordered s sound) over h g q first made same agree m sound;
  later = λ f h g s sealed rest inputs p q first made sound parts over same agree m. begun_leaves_later f h g s sealed rest inputs p q first made sound parts over same agree m;
}
