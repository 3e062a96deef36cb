use Rattle.std.proofs.Common.{Some}
use Rattle.strat_memory.specs.Memory.{sealed_entries}
use Rattle.strat_open.proofs.ReadingLemmas.{lists_lent}
use Rattle.strat_open.proofs.reading.Reading.zeros.Goals as goal

pub returns-clause-ok : goal.returns-clause-ok
returns-clause-ok c =
    let m = c.self.inside.found.memory in
    rw (← c.self.view_is) (
      m.spare,
      lists_lent c.self.inside.found.sb.mem c.self.inside.found.journal.list c.lists.result.2.now c.lists.result.0.now _ m.entries (sealed_entries m) m.spare c.lists.ensures.ok.0 c.lists.ensures.ok.1 c.self.invariant.memory.lists,
    )
