use Rattle.std.proofs.Common.{ap, ◌∙◌}
use Rattle.strat_cursor.specs.Cursors.{CursorsView}
use Rattle.strat_cursor.specs.Held.{cursors_held}
use Rattle.strat_cursor.proofs.HeldLemmas.{held_retired}
use Rattle.strat_memory.specs.MemoryFields.{memory_held}
use Rattle.strat_memory.proofs.memory.Memory.retire.Goals as goal

pub returns : goal.returns
returns c = record {
  ok = rw (← c.self.view_is) (λ i. record (memory_held c.self.inside) {
    cursors = (ap (λ (x : CursorsView). cursors_held c.self.inside.pool x) c.retire.ensures.ok ∙ held_retired c.self.inside.pool c.args.desc c.self.inside.cursors) i;
  });
}
