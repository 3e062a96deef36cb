use Rattle.strat_store.proofs.store.Store.zeros.Goals as goal

pub returns : goal.returns
returns c = record { ok = rw (← c.self.view_is) (c.lists.result.2.now, c.lists.ensures.ok.0, c.lists.ensures.ok.1) }
