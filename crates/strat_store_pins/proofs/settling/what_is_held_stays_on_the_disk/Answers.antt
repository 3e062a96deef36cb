use Rattle.strat_store_pins.proofs.settling.what_is_held_stays_on_the_disk.Goals as goal

pub returns-clause-durable : goal.returns-clause-durable
returns-clause-durable g c = λ d e old new carried told leaves calm on. leaves.on_disk calm on

pub returns-clause-same : goal.returns-clause-same
returns-clause-same g c = λ d e old new carried told f h leaves calm first second. leaves.beside calm f h first second

pub returns-clause-images : goal.returns-clause-images
returns-clause-images g c = λ d e old new carried told x image leaves stands paid since. leaves.paid x stands paid image since

pub returns-clause-len : goal.returns-clause-len
returns-clause-len g c = λ d e old new carried told x leaves stands. leaves.counted x stands

pub returns-clause-time : goal.returns-clause-time
returns-clause-time g c = λ d e old new carried told x image leaves stands since. leaves.superblocks x stands image since
