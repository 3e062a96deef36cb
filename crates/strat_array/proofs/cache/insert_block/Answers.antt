use Rattle.strat_array.proofs.CacheLemmas.{put_adds_only}
use Rattle.strat_array.proofs.cache.insert_block.Goals as goal

pub returns-clause-kept : goal.returns-clause-kept
returns-clause-kept c = put_adds_only c.args.blocks.now c.put.new.self c.args.array c.args.index c.args.block c.put.result c.put.ensures.entries c.put.ensures.err
