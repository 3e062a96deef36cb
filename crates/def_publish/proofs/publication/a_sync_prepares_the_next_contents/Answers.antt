use Rattle.std.proofs.Common.{arith}
use Rattle.def_publish.proofs.PublishLemmas.{lays_over, synced_prepares}
use Rattle.def_publish.proofs.publication.a_sync_prepares_the_next_contents.Goals as goal

pub returns : goal.returns
returns g c = record {
  prepared = λ old new. synced_prepares _ _;
  over = λ d. lays_over _;
  fits = λ d x y p. (omega (arith, p.next.slot), p.next.lawful);
}
