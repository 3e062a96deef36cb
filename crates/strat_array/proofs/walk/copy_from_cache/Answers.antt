use Rattle.strat_array.proofs.HoldLemmas.{copy_taken}
use Rattle.strat_array.proofs.walk.copy_from_cache.Goals as goal

pub returns-then-not-is_held-clause-kept : goal.returns-then-not-is_held-clause-kept
returns-then-not-is_held-clause-kept c = copy_taken c.args.cache.now c.args.array c.args.index c.args.scratch.now c.copy.new.self c.block.result c.block.ensures.ok c.copy.ensures.ok
