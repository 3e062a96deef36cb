use Rattle.strat_disk.proofs.MemoryLemmas.{is_settled}
use Rattle.strat_disk.proofs.memory.MemDiskDisk.sync.Goals as goal

pub returns-clause-ok : goal.returns-clause-ok
returns-clause-ok c = is_settled c.args.self.now.log c.sync.new.self c.sync.ensures.time c.sync.ensures.ok
