use Rattle.strat_store_pins.proofs.staging.a_store_with_staged_changes_is_consistent.Goals as goal

pub returns : goal.returns
returns c = record { kept = λ s is. (is.whole, is.cached); len = λ s is. is.few; room = λ s is. is.room }
