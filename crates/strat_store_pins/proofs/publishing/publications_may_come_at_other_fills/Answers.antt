use Rattle.std.proofs.Common.{refl}
use Rattle.strat_store_pins.proofs.PublicationLemmas.{grown_succeeds, one_succeeds}
use Rattle.strat_store_pins.proofs.publishing.publications_may_come_at_other_fills.Goals as goal

pub returns : goal.returns
returns c = record {
  ok = one_succeeds;
  promoted = record { mem = refl; changes_max = refl; versions_max = refl; format = refl; parents = refl; marks = refl; compacted = refl; updates = refl; changes = refl; journal = refl };
  later = grown_succeeds;
  rest = record { mem = refl; changes_max = refl; versions_max = refl; format = refl; parents = refl; marks = refl; compacted = refl; updates = refl; changes = refl; journal = refl };
}
