use Rattle.def_slice.proofs.FedLemmas.{may_slice, reads_its_arrays}
use Rattle.def_slice.proofs.opened.an_open_promotion_may_be_sliced.Goals as goal

pub returns : goal.returns
returns c = record { ok = may_slice; reads = reads_its_arrays }
