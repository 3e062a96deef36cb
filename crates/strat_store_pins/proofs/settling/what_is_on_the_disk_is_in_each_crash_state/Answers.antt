use Rattle.strat_store_pins.proofs.settling.what_is_on_the_disk_is_in_each_crash_state.Goals as goal

pub returns-clause-newest : goal.returns-clause-newest
returns-clause-newest g c = λ d s image on left. on.newest image left

pub returns-clause-chain : goal.returns-clause-chain
returns-clause-chain g c = λ d s image on left. on.chain image left

pub returns-clause-exposed : goal.returns-clause-exposed
returns-clause-exposed g c = λ d s on. on.exposed
