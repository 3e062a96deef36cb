use Rattle.std.proofs.Common.{◌≡◌, true, false, true≢false, refl, sym}
use Rattle.strat_base.specs.Change as change
use Rattle.strat_store_pins.proofs.untouched.a_change_that_is_taken_is_not_refused.Goals as goal

pub returns : goal.returns
returns g c = record {
  none = λ d e old new v taken is.
      let written : false ≡ true = is.taken (change.Clone v) refl taken in
      true≢false (sym written);
}
