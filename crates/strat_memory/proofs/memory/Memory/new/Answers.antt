use Rattle.std.proofs.Common.{List, [], sym, ap, subst, arith}
use Rattle.strat_arena.specs.PoolView.{SameBeside}
use Rattle.strat_arena.specs.declared.pool.PoolEntry.{PoolEntry}
use Rattle.strat_base.specs.Entries.{Entry}
use Rattle.strat_cursor.specs.Cursors.{CursorsView, OpenCursor}
use Rattle.def_meaning.specs.TableOver.{are_known}
use Rattle.strat_tree.specs.TreeView.{TreeView}
use Rattle.strat_memory.specs.MemoryFields.{StandInPool}
use Rattle.strat_memory.proofs.PoolLemmas.{first_stands, no_entries}
use Rattle.strat_memory.proofs.memory.Memory.new.Goals as goal

pub invariant_of-result : goal.invariant_of-result
invariant_of-result c = record {
  stand = subst (λ (cursors : List OpenCursor). StandInPool c.new-2.new.pool c.in_ok-tree.tree.parents c.in_ok-zero.zero [] cursors) (sym (ap (λ (v : CursorsView). v.opened) c.in_ok-cursors.ensures.ok))
      (first_stands c.new-2.new.pool c.in_ok-tree.tree.parents c.in_ok-zero.zero c.in_ok-zero.ensures.kept c.in_ok-zero.ensures.found.1
      (subst (λ (old : List PoolEntry). SameBeside old c.new-2.new.pool c.in_ok-zero.zero.list.arena) c.new-pool.ensures.ok c.in_ok-zero.ensures.same));
  known = ap (λ (es : List Entry). are_known c.in_ok-tree.tree.parents es) (no_entries c.new-2.new.pool c.in_ok-zero.zero.list c.in_ok-zero.ensures.ok.0);
  sealed = tt;
  fresh = tt;
  changes = omega arith;
  updates = omega arith;
  versions = ap (λ (t : TreeView). t.versions_max) c.in_ok-tree.ensures.ok;
}
