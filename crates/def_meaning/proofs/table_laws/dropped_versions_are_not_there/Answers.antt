use Rattle.def_meaning.proofs.StateTableLemmas.{known_same, frozen_same, pairs_dropped}
use Rattle.def_meaning.proofs.table_laws.dropped_versions_are_not_there.Goals as goal

pub returns : goal.returns
returns c = record { known = known_same; frozen = frozen_same; pairs = pairs_dropped }
