use Rattle.strat_store_pins.proofs.serving.a_run_waits_for_no_frame.Goals as goal

pub returns : goal.returns
returns c = record { fits = λ taken bodies n waits. (waits.few, waits.short, waits.part, waits.parts) }
