use Rattle.def_crash.specs.Moments.{OnlyReads}
use Rattle.def_crash.proofs.MomentLemmas.{reads_trans}
use Rattle.strat_memory.specs.RecoveredFields.{empty_cache}
use Rattle.strat_open.proofs.reading.read_store.Given.{Over}
use Rattle.strat_open.proofs.reading.read_store.Goals as goal
use Rattle.strat_open.proofs.reading.read_store.Goals.{After-recover_store}

-- a sync leaves the disk as it was read, and so does all that follows
looks : (g : Over) (c : After-recover_store g) → OnlyReads (g.D.Disk.view c.args.disk.now) (g.D.Disk.view c.recover_store.new.disk)
looks g c =
    reads_trans (record { same = c.sync_first.ensures.same; images = c.sync_first.ensures.images; time = c.sync_first.ensures.time }) c.recover_store.ensures.same

pub returns-in_err-found-clause-same : goal.returns-in_err-found-clause-same
returns-in_err-found-clause-same g c = looks g (goal.at.returns-in_err-found-clause-same g c).After-recover_store

pub invariant_of-result : goal.invariant_of-result
invariant_of-result g c = c.in_ok-found.ensures.kept (empty_cache 0)

pub returns-clause-same : goal.returns-clause-same
returns-clause-same g c = looks g (goal.at.returns-clause-same g c).After-recover_store
