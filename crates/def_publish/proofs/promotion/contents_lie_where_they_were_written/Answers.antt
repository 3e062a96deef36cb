use Rattle.def_publish.proofs.PromotedLemmas.{levels_replaced, lies_written}
use Rattle.def_publish.proofs.promotion.contents_lie_where_they_were_written.Goals as goal

pub returns : goal.returns
returns c = record { levels = levels_replaced; lies = lies_written }
