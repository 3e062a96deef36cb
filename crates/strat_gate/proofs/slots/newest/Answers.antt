use Rattle.def_crash.proofs.MomentLemmas.{reads_trans}
use Rattle.strat_gate.proofs.slots.newest.Goals as goal

pub returns-in_default-read_slot-clause-same : goal.returns-in_default-read_slot-clause-same
returns-in_default-read_slot-clause-same g c = reads_trans c.read_slot.ensures.same c.read_slot-2.ensures.same

pub returns-clause-same : goal.returns-clause-same
returns-clause-same g c = reads_trans c.read_slot.ensures.same c.read_slot-2.ensures.same
