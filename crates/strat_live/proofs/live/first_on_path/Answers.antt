use Rattle.strat_live.proofs.AboveLemmas.{some_above, none_above}
use Rattle.strat_live.proofs.live.first_on_path.Goals as goal

pub returns-in-Some : goal.returns-in-Some
returns-in-Some c = record { ok = some_above c.args.tree.now.parents c.count.ensures.kept c.args.v c.args.group.now c.count_above-above.result c.count_above-above.ensures.ok c.count_above-above.ensures.len c.in-Some.i c.in-Some.ensures.ok }

pub returns-in-None : goal.returns-in-None
returns-in-None c = record { ok = none_above c.args.tree.now.parents c.count.ensures.kept c.args.v c.args.group.now c.count_above-above.result c.count_above-above.ensures.ok c.count_above-above.ensures.len c.in-None.ensures.ok }
