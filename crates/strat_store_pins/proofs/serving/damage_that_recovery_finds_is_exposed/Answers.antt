use Rattle.strat_store_pins.proofs.serving.damage_that_recovery_finds_is_exposed.Goals as goal

pub returns : goal.returns
returns g c = record { damaged = λ d f block exposed damaged. record { content = f; exposed = exposed; block = block; damaged = damaged } }
