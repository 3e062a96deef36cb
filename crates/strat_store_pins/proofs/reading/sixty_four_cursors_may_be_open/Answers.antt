use Rattle.std.proofs.Common.{◌≡◌, sym, ◌∙◌, arith}
use Rattle.strat_store_pins.proofs.reading.sixty_four_cursors_may_be_open.Goals as goal

pub returns-clause-fits : goal.returns-clause-fits
returns-clause-fits c = λ opened answer full tells. tells.0 full

pub returns-clause-ok : goal.returns-clause-ok
returns-clause-ok c = λ opened answer few tells. tells.1 (λ full. let e : 63 ≡ 64 = sym few ∙ full in omega (arith, e))
