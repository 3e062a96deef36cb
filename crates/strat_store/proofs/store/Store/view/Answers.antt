use Rattle.std.specs.Option.{IfSome, option_map}
use Rattle.std.proofs.Common.{List, IsTrue, sym, subst}
use Rattle.strat_base.specs.Entries.{Entry}
use Rattle.strat_base.specs.Tree.{Parents}
use Rattle.strat_level.specs.Memtable.{entries_held, ListStands}
use Rattle.def_meaning.specs.TableOver.{are_known}
use Rattle.strat_store.proofs.store.Store.view.Goals as goal

pub returns-clause-kept : goal.returns-clause-kept
returns-clause-kept c = record {
  zero = c.lists.ensures.kept.0;
  known = subst (λ (ps : Parents). IsTrue (are_known ps (entries_held c.lists.result.2.now c.lists.result.0.now))) (sym c.lists.ensures.found.0)
      (subst (λ (es : List Entry). IsTrue (are_known c.self.inside.held.memory.parents es)) (sym c.lists.ensures.ok.0) c.lists.ensures.fits);
  sealed = subst (λ (ps : Parents). IfSome (option_map (λ z. z.now) c.lists.result.1) (λ z. ListStands c.lists.result.2.now z × IsTrue (are_known ps (entries_held c.lists.result.2.now z)))) (sym c.lists.ensures.found.0)
      c.lists.ensures.kept.1;
  arrays = c.requires.kept.0;
  few = λ v. c.requires.kept.1;
}
