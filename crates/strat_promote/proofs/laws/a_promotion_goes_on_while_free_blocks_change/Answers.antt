use Rattle.strat_promote.proofs.BetweenLemmas.{goes_on_used, job_used}
use Rattle.strat_promote.proofs.laws.a_promotion_goes_on_while_free_blocks_change.Goals as goal

pub returns : goal.returns
returns D c = record {
  begun = λ old new space f g job p torn told tells used begun. goes_on_used space f g job p used (torn.content f g told tells) begun;
  job = λ old new space f g job p inputs torn told tells used is. job_used space f g job p used (torn.content f g told tells) inputs is;
}
