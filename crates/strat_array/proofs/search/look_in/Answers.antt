use Rattle.std.proofs.Common.{[], ◌∙◌, sym, subst}
use Rattle.strat_array.specs.Lying.{LiesAt}
use Rattle.strat_base.proofs.ListFacts.{get_is}
use Rattle.strat_base.proofs.ResultFacts.{err_of}
use Rattle.strat_array.proofs.search.look_in.Goals as goal

pub returns-clause-ok : goal.returns-clause-ok
returns-clause-ok g c = λ lists stands.
    subst (λ (x : _). LiesAt c.args.key.now x c.lies_of.result) (sym (get_is lists c.args.index c.borrow_block.result [] (sym (c.in_ok-ensure_block_at.ensures.ok lists stands) ∙ c.borrow_block.ensures.ok))) c.lies_of.ensures.ok

pub returns-in_err-ensure_block_at-clause-damaged : goal.returns-in_err-ensure_block_at-clause-damaged
returns-in_err-ensure_block_at-clause-damaged g c = λ b torn. c.in_err-ensure_block_at.ensures.damaged b (err_of c.from_residual.result _ _ c.from_residual.ensures.1 torn)
