use Rattle.std.proofs.Common.{◌≡◌, ℕ, List, get_or, ap, arith, sym, true≢false}
use Rattle.def_publish.proofs.WorkedLemmas.{next_computed, again_computed, next_promoted, next_written}
use Rattle.def_publish.proofs.worked.the_next_contents_are_computed.Goals as goal

pub returns : goal.returns
returns c = record {
  ok = next_computed;
  again = again_computed;
  promoted = next_promoted;
  written = next_written;
  generation = λ n. let bad : 3 ≡ 2 = n.generation in omega (arith, bad);
  made = λ n. let bad : 2 ≡ 1 = n.next_array in omega (arith, bad);
  number = λ n. let bad : 1 ≡ 2 = ap (λ (ids : List ℕ). get_or ids 0 0) n.numbered in omega (arith, bad);
  tag = λ n. true≢false (sym n.each.0.rising);
  touching = λ n. true≢false (sym n.each.0.apart);
  bare = λ n. true≢false (sym n.each.0.lawful);
}
