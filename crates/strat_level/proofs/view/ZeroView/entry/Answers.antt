use Rattle.std.proofs.Common.{◌<◌, length, sym, ap, ◌∙◌, subst}
use Rattle.strat_arena.specs.PoolView.{arena_at}
use Rattle.strat_base.specs.EntryBytes.{fits_fields}
use Rattle.strat_level.specs.Memtable.{ItemList, ListStands}
use Rattle.strat_level.proofs.ItemLemmas.{lawful_at}
use Rattle.strat_level.proofs.view.ZeroView.entry.Goals as goal

pub returns-clause-fits : goal.returns-clause-fits
returns-clause-fits c =
    let stands = subst (λ (l : ItemList). ListStands c.args.pool.now l) (sym c.self.view_is) c.requires.kept in
    let within = subst (λ (l : ItemList). c.args.place < length l.items) (sym c.self.view_is) c.requires.fits in
    ap fits_fields c.entry.ensures
    ∙ lawful_at (arena_at c.args.pool.now c.self.inside.arena).pairs c.self.inside.items.items c.args.place c.index.result.now stands.lawful within c.index.ensures
