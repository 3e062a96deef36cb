use Rattle.std.proofs.Common.{List, ap, ◌∙◌, arith}
use Rattle.strat_base.specs.Entries.{Entry}
use Rattle.def_meaning.specs.TableOver.{are_known}
use Rattle.strat_memory.specs.Memory.{Memory}
use Rattle.strat_memory.specs.MemoryFields.{lists_beside}
use Rattle.strat_tree.specs.TreeView.{TreeView}
use Rattle.strat_memory.proofs.PoolLemmas.{sealed_none, unread_stands}
use Rattle.strat_memory.proofs.memory.Memory.load.Goals as goal

pub invariant_of-self : goal.invariant_of-self
invariant_of-self c = record {
  stand = unread_stands c.self.inside.pool c.self.inside.tree.parents c.prune.new.tree.parents c.self.inside.zero (lists_beside c.self.inside.sealed c.self.inside.next) c.self.inside.cursors.opened
      (ap (λ (m : Memory). m.cursors.opened) c.self.view_is ∙ c.requires.none.3) c.self.invariant.stand;
  known = ap (λ (es : List Entry). are_known c.prune.new.tree.parents es) (ap (λ (m : Memory). m.entries) c.self.view_is ∙ c.requires.none.1);
  sealed = sealed_none c.self.inside.pool c.prune.new.tree.parents c.self.inside.sealed (ap (λ (m : Memory). m.sealed) c.self.view_is ∙ c.requires.none.2);
  fresh = c.self.invariant.fresh;
  changes = omega (arith, c.requires.kept.1, ap (λ (m : Memory). m.changes_max) c.self.view_is);
  updates = c.requires.kept.0;
  versions = ap (λ (t : TreeView). t.versions_max) c.prune.ensures.ok ∙ c.grow.ensures.ok.1 ∙ c.self.invariant.versions;
}
