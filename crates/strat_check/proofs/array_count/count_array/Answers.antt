use Rattle.strat_check.proofs.array_count.count_array.Goals as goal

pub returns-then-branch-clause-ok : goal.returns-then-branch-clause-ok
returns-then-branch-clause-ok g c = λ f content exposed on up. c.in_ok-count_entries.ensures.ok c.if-branch.true f content exposed on up (c.clear.ensures.ok c.args.tree.now.parents c.requires.len.0 c.requires.len.1)
