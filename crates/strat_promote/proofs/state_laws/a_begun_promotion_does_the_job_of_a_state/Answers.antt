use Rattle.strat_promote.proofs.StateInputsLemmas.{begun_open, begun_nothing, begun_used, begun_its_job}
use Rattle.strat_promote.proofs.state_laws.a_begun_promotion_does_the_job_of_a_state.Goals as goal

pub returns : goal.returns
returns c = record {
  kept = λ zero levels mem versions id p begun. begun_open zero levels mem versions id p begun;
  begun = λ zero levels mem versions id p begun f job. begun_nothing zero levels mem versions id p begun f job;
  found = λ zero levels mem versions id p begun space. begun_used zero levels mem versions id p begun space;
  job = λ f s inputs p sound over. begun_its_job f s inputs p sound over;
}
