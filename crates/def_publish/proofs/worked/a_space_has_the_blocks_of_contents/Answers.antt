use Rattle.std.proofs.Common.{◌≡◌, arith, refl}
use Rattle.std.proofs.lemmas.Bool.Decides.{nat_tests}
use Rattle.def_publish.proofs.worked.a_space_has_the_blocks_of_contents.Goals as goal

pub returns : goal.returns
returns c = record {
  old = record { first = refl; used = λ b. grind (arith, nat_tests) };
  during = record { first = refl; used = λ b. grind (arith, nat_tests) };
  next = record { first = refl; used = λ b. grind (arith, nat_tests) };
  after = record { first = refl; used = λ b. grind (arith, nat_tests) };
  fewer = λ s. let bad : 0 ≡ 1 = s.used 8 in omega (arith, bad);
  more = λ s. let bad : 1 ≡ 0 = s.used 6 in omega (arith, bad);
  used = record { first = refl; used = λ b. grind (arith, nat_tests) };
}
