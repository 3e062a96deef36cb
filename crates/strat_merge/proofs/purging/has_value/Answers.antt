use Rattle.strat_merge.proofs.KeepingLemmas.{value_none, value_some, position_within}
use Rattle.strat_merge.proofs.purging.has_value.Goals as goal

pub returns-in-Some : goal.returns-in-Some
returns-in-Some c =
    let within = position_within _ c.args.items.now c.in-Some.i c.in-Some.ensures.ok in
    record { ok = value_some c.args.tree.now.parents c.args.items.now c.args.v c.requires.kept c.in-Some.i _ within c.in-Some.ensures.ok }

pub returns-in-None : goal.returns-in-None
returns-in-None c = record { ok = value_none c.args.tree.now.parents c.args.items.now c.args.v c.requires.kept c.in-None.ensures.ok }
