use Rattle.std.proofs.Common.{sym, subst}
use Rattle.strat_memory.specs.Held.{IsConsistent}
use Rattle.strat_store.specs.StoreFields.{store_held}
use Rattle.strat_store.proofs.RangingLemmas.{picked_kept}
use Rattle.strat_store.proofs.store.Store.picked.Goals as goal

pub returns-clause-kept : goal.returns-clause-kept
returns-clause-kept c =
    picked_kept (store_held c.self.inside) c.parts.result.2.now.parents c.args.version c.arrays_at.result (subst IsConsistent (sym c.self.view_is) c.requires.kept.0) c.arrays_at.ensures.ok c.arrays_at.ensures.len
