use Rattle.std.proofs.Common.{true≢false, refl, sym}
use Rattle.strat_base.specs.Change as change
use Rattle.strat_store_pins.proofs.untouched.look_ups_leave_the_disk_and_changes_the_cache.Goals as goal

pub returns-clause-same : goal.returns-clause-same
returns-clause-same g c = λ d e old new told is. (is.calm (λ asked. absurd (true≢false (sym asked))), (is.looks refl).cap)

pub returns-clause-found : goal.returns-clause-found
returns-clause-found g c = λ d e old new told k x is among. (is.looks refl).cached k x among

pub returns-clause-kept : goal.returns-clause-kept
returns-clause-kept g c = λ d e old new v key told is. is.cached (change.Delete v key) refl

pub returns-clause-err : goal.returns-clause-err
returns-clause-err g c = λ d e old new v key is. is.calm (λ asked. refl)
