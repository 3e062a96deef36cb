use Rattle.std.proofs.Common.{◌≡◌, eqb, true, false, refl, arith}
use Rattle.std.proofs.lemmas.Bool.{lt-ltb, le-ltb}
use Rattle.std.proofs.lemmas.Bool.Decides.{nat_tests}
use Rattle.strat_follow.proofs.laws.numbers_say_whose_turn_it_is.Goals as goal

pub returns-clause-next : goal.returns-clause-next
returns-clause-next c = λ n. let same : eqb n n ≡ true = grind (arith, nat_tests) in rw same refl

pub returns-clause-old : goal.returns-clause-old
returns-clause-old c = λ next n less. let other : eqb n next ≡ false = grind (arith, nat_tests) in rw (other, lt-ltb n next less) refl

pub returns-clause-gap : goal.returns-clause-gap
returns-clause-gap c = λ next n more. let other : eqb n next ≡ false = grind (arith, nat_tests) in rw (other, le-ltb n next (omega (arith, more))) refl
