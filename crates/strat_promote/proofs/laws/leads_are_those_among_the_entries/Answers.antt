use Rattle.std.proofs.Common.{None, ap}
use Rattle.strat_base.specs.Entries.{lead_entries}
use Rattle.def_bytes.specs.Arrays.{blocks_of}
use Rattle.strat_promote.proofs.LeadLemmas.{read_whole}
use Rattle.strat_promote.proofs.laws.leads_are_those_among_the_entries.Goals as goal

pub returns : goal.returns
returns c = λ f a entries on up.
    let whole = read_whole f None (blocks_of a.extents) entries on up in (ap (lead_entries a.versions) whole.0, whole.1)
