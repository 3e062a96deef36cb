use Rattle.std.proofs.Common.{refl, arith}
use Rattle.def_publish.specs.Worked.{published_disk}
use Rattle.strat_store_pins.proofs.PublicationLemmas.{published_open, twice_damaged}
use Rattle.strat_store_pins.proofs.publishing.nothing_is_published_before_the_old_region_is_shut.Goals as goal

pub returns : goal.returns
returns c = record {
  none = λ s. s.shut published_disk refl (omega arith) published_open;
  prepared = λ p. p.stands.shut published_disk refl (omega arith) published_open;
  damaged = twice_damaged;
}
