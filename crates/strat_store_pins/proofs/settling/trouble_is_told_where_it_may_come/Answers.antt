use Rattle.std.proofs.Common.{◌≡◌, true, false, true≢false, refl, sym}
use Rattle.strat_store_pins.proofs.settling.trouble_is_told_where_it_may_come.Goals as goal

pub returns-clause-damaged : goal.returns-clause-damaged
returns-clause-damaged g c = λ d old v b key tells. tells.full refl b refl

pub returns-clause-room : goal.returns-clause-room
returns-clause-room g c = λ d old v key tells. (tells.short refl).1 refl

pub returns-clause-found : goal.returns-clause-found
returns-clause-found g c = λ d f old v b key tells exposed. tells.none refl b refl f exposed

pub returns-clause-none : goal.returns-clause-none
returns-clause-none g c = λ d old v key. (
  (λ tells. let takes : false ≡ true = (tells.short refl).0 in true≢false (sym takes)),
  (λ tells. let reaches : false ≡ true = tells.reached refl in true≢false (sym reaches)),
)
