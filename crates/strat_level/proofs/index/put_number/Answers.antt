use Rattle.strat_level.proofs.IndexLemmas.{slot_put}
use Rattle.strat_level.proofs.index.put_number.Goals as goal

pub returns-in_default-clause-ok : goal.returns-in_default-clause-ok
returns-in_default-clause-ok c =
    slot_put c.args.index.now.items c.reach.new.index.items c.args.version c.args.number c.in_ok-reach.ensures.len c.in_ok-reach.ensures.ok
