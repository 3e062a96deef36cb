use Rattle.strat_promote.proofs.StateInputsLemmas.{begun_takes, begun_least, begun_purges}
use Rattle.strat_promote.proofs.state_laws.a_begun_promotion_takes_the_levels_of_a_state.Goals as goal

pub returns : goal.returns
returns c = record {
  takes = λ f s inputs p sound over. begun_takes f s inputs p sound over;
  least = λ f s inputs p sound over full. begun_least f s inputs p sound over full;
  purges = λ f s inputs p sound over. begun_purges f s inputs p sound over;
}
