use Rattle.strat_arena.specs.PoolView.{arena_at}
use Rattle.strat_arena.specs.Items.{entries_of}
use Rattle.strat_level.proofs.RangeLemmas.{range_of}
use Rattle.strat_level.proofs.search.key_range.Goals as goal

pub returns : goal.returns
returns c = record {
  ok = range_of (entries_of (arena_at c.args.pool.now c.args.arena).pairs c.args.items.now) c.args.key.now c.args.v c.start_of.result c.end_of.result c.start_of.ensures.ok c.end_of.ensures.ok;
}
