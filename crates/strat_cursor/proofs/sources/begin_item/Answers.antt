use Rattle.std.proofs.Common.{List, [], drop, subst}
use Rattle.strat_base.specs.Entries.{Entry}
use Rattle.strat_level.specs.Memtable.{entries_held}
use Rattle.strat_cursor.specs.Sources.{PassesUndue}
use Rattle.strat_cursor.proofs.SourceLemmas.{starts_from}
use Rattle.strat_cursor.proofs.sources.begin_item.Goals as goal

pub returns-clause-ok : goal.returns-clause-ok
returns-clause-ok c =
    subst (λ (l : List Entry). PassesUndue c.args.query.now.view.now.tree.now.parents c.args.query.now.version [] l (drop c.stand_item.result (entries_held c.args.query.now.view.now.pool.now c.args.list.now)))
    (starts_from (entries_held c.args.query.now.view.now.pool.now c.args.list.now) c.args.query.now.lo.now c.seek-item.result c.requires.kept.lawful c.seek-item.ensures.ok) c.stand_item.ensures.ok
