use Rattle.strat_publish.proofs.WholeLemmas.{whole_computes}
use Rattle.strat_publish.proofs.publishing_laws.a_store_that_stands_may_compute.Goals as goal

pub returns : goal.returns
returns g c = record { ok = λ d s x chain space target made filters. whole_computes _ s x chain space target made filters }
