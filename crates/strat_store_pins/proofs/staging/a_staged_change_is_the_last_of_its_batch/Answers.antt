use Rattle.std.proofs.Common.{refl}
use Rattle.strat_store_pins.proofs.staging.a_staged_change_is_the_last_of_its_batch.Goals as goal

pub returns : goal.returns
returns c = record { ok = λ s change. (refl, refl, refl); len = λ s. refl; none = λ s. refl }
