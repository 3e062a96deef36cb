use Rattle.std.proofs.Common.{None, sym, ap}
use Rattle.strat_base.specs.Entries.{lead_entries}
use Rattle.def_bytes.specs.Arrays.{blocks_of}
use Rattle.strat_promote.proofs.LeadLemmas.{entries_same, misfit_same}
use Rattle.strat_promote.proofs.laws.leads_stay_where_their_blocks_do.Goals as goal

pub returns : goal.returns
returns c = λ f g a agree. (
  ap (lead_entries a.versions) (sym (entries_same f g None (blocks_of a.extents) agree)),
  sym (misfit_same f g None (blocks_of a.extents) agree),
)
