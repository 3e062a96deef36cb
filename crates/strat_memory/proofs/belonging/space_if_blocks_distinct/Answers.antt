use Rattle.std.proofs.Common.{◌∙◌}
use Rattle.strat_memory.proofs.OwnLemmas.{is_space, not_own}
use Rattle.strat_memory.proofs.belonging.space_if_blocks_distinct.Goals as goal

pub returns-then-not-branch-clause-none : goal.returns-then-not-branch-clause-none
returns-then-not-branch-clause-none c =
    not_own c.new-space.result c.args.mem c.args.chain.now c.args.levels.now (c.new-space.ensures.found ∙ c.first_free.ensures.ok) c.new-space.ensures.ok
    (rw c.if-not-branch.true at c.in_ok-mark_all.ensures.ok)

pub returns-clause-ok : goal.returns-clause-ok
returns-clause-ok c =
    is_space c.new-space.result c.mark_all.new.space c.args.mem c.args.chain.now c.args.levels.now (c.new-space.ensures.found ∙ c.first_free.ensures.ok) c.new-space.ensures.ok
    (rw c.if-not-branch.false at c.in_ok-mark_all.ensures.ok)
