use Rattle.std.proofs.Common.{◌≤◌, ◌+◌, refl, arith}
use Rattle.strat_store_pins.proofs.reading.look_ups_read_no_more_than_they_want.Goals as goal

pub returns-clause-found : goal.returns-clause-found
returns-clause-found c = λ before now reads.
    let most = reads refl 0 (λ a among. absurd (omega (arith, among.1))) in
    let le : now ≤ before + 0 = most.bound in omega (arith, le)

pub returns-clause-none : goal.returns-clause-none
returns-clause-none c = λ before now reads.
    let most = reads refl 0 (λ a among. absurd (omega (arith, among.1))) in
    let le : now ≤ before + 0 = most.bound in omega (arith, le)
