use Rattle.strat_store.proofs.StagingLemmas.{length_replies, staged_at}
use Rattle.strat_store.proofs.staging_laws.staging_follows_the_table.Goals as goal

pub returns : goal.returns
returns g c = record { ok = λ d s x rows request change. staged_at _ s x rows request change; len = length_replies }
