use Rattle.strat_store.proofs.RangingLemmas.{named_damaged}
use Rattle.strat_store.proofs.export_laws.what_an_export_names_is_damaged.Goals as goal

pub returns : goal.returns
returns c = record { ok = λ content s v b names. named_damaged content s v b names }
