use Rattle.strat_promote.proofs.BetweenLemmas.{goes_on}
use Rattle.strat_promote.proofs.SliceLemmas.{task_stays, made_from}
use Rattle.strat_promote.proofs.laws.a_promotion_goes_on_where_its_blocks_stay.Goals as goal

pub returns : goal.returns
returns c = record {
  begun = λ f g job p keeps begun. goes_on f g job p keeps begun;
  job = λ f g job p inputs agree is. task_stays f g p.task inputs job agree is;
  made = λ f h g job j first made agree is. made_from f h g job j first made agree is;
}
