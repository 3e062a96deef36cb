use Rattle.std.proofs.Common.{sym, ◌∙◌}
use Rattle.std.proofs.lemmas.List.{nil_from_length}
use Rattle.strat_store.proofs.StagingLemmas.{replies_counted}
use Rattle.strat_store.proofs.store.Store.staged.Goals as goal

pub returns-clause-ok : goal.returns-clause-ok
returns-clause-ok c =
    rw (← c.self.view_is) (λ going. c.len.ensures.ok ∙ replies_counted c.self.inside.held c.self.inside.cache c.self.inside.replies (c.self.invariant going).2)

pub returns-clause-none : goal.returns-clause-none
returns-clause-none c =
    rw (← c.self.view_is) (λ going zero.
    let many = c.len.ensures.ok ∙ replies_counted c.self.inside.held c.self.inside.cache c.self.inside.replies (c.self.invariant going).2 in
    nil_from_length c.self.inside.held.journal.batch (sym many ∙ zero))
