use Rattle.std.proofs.Common.{◌≡◌, List, length, ap, arith, sym, true≢false}
use Rattle.strat_base.specs.Change.{Change}
use Rattle.strat_store_pins.proofs.PublicationLemmas.{none_lost}
use Rattle.strat_store_pins.proofs.publishing.wrong_publications_are_refused.Goals as goal

pub returns : goal.returns
returns c = record {
  slot = λ n. let bad : 0 ≡ 1 = n.slot in omega (arith, bad);
  older = λ n. omega (arith, n.later);
  region = λ n. let bad : 0 ≡ 1 = n.region in omega (arith, bad);
  doubled = λ n. let bad : 4 ≡ 0 = ap (λ (j : List Change). length j) n.journal in omega (arith, bad);
  lost = λ n. let bad : 0 ≡ 1 = ap (λ (j : List Change). length j) n.journal in omega (arith, bad);
  value = none_lost;
  few = λ m. true≢false (sym m.few);
  format = λ p. let bad : 7 ≡ 2 = p.format in omega (arith, bad);
}
