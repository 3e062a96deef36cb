use Rattle.strat_manifest.proofs.ChainSeenLemmas.{marked_or_not}
use Rattle.strat_manifest.proofs.chain.mark_block.Goals as goal

pub returns-clause-found : goal.returns-clause-found
returns-clause-found c = (marked_or_not c.mark.result c.args.seen.now c.mark.new.self c.in_ok-one.one c.args.block c.in_ok-one.ensures.ok c.mark.ensures.ok c.mark.ensures.cause).0

pub returns-clause-ok : goal.returns-clause-ok
returns-clause-ok c = (marked_or_not c.mark.result c.args.seen.now c.mark.new.self c.in_ok-one.one c.args.block c.in_ok-one.ensures.ok c.mark.ensures.ok c.mark.ensures.cause).1
