use Rattle.strat_store.proofs.StagingLemmas.{consistent_staged, staged_none}
use Rattle.strat_store.proofs.staging_laws.none_staged_is_as_ever.Goals as goal

pub returns : goal.returns
returns c = record { kept = consistent_staged; end = staged_none }
