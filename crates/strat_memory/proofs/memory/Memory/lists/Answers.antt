use Rattle.std.proofs.Common.{IsTrue, Option, sym, subst}
use Rattle.std.specs.Option.{IfSome}
use Rattle.strat_level.specs.Memtable.{ItemList, ListStands, entries_held}
use Rattle.def_meaning.specs.TableOver.{are_known}
use Rattle.strat_memory.proofs.PoolLemmas.{sealed_read}
use Rattle.strat_memory.proofs.memory.Memory.lists.Goals as goal

pub returns-clause-kept : goal.returns-clause-kept
returns-clause-kept c =
    rw (← c.self.view_is) (
      subst (λ (l : ItemList). ListStands c.self.inside.pool l) (sym c.view.ensures.ok) c.self.invariant.stand.level.list,
      subst (λ (o : Option ItemList). IfSome o (λ z. ListStands c.self.inside.pool z × IsTrue (are_known c.self.inside.tree.parents (entries_held c.self.inside.pool z)))) (sym c.sealed_view.ensures.ok)
          (sealed_read c.self.inside.pool c.self.inside.tree.parents c.self.inside.zero c.self.inside.sealed c.self.inside.next c.self.invariant.stand.beside c.self.invariant.sealed),
    )
