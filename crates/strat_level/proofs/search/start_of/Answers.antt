use Rattle.strat_arena.specs.PoolView.{arena_at}
use Rattle.strat_arena.specs.Items.{entries_of}
use Rattle.strat_level.proofs.PlaceLemmas.{start_of_tie}
use Rattle.strat_level.proofs.search.start_of.Goals as goal

pub returns-in-Ok : goal.returns-in-Ok
returns-in-Ok c = record {
  ok = start_of_tie (entries_of (arena_at c.args.pool.now c.args.arena).pairs c.args.items.now) c.requires.kept c.args.key.now c.args.version c.in-Ok.i c.in-Ok.ensures.ok;
}
