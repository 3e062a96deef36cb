use Rattle.strat_publish.proofs.WholeLemmas.{whole_promotes}
use Rattle.strat_publish.proofs.publishing_laws.a_whole_store_may_promote.Goals as goal

pub returns : goal.returns
returns c = record { ok = whole_promotes }
