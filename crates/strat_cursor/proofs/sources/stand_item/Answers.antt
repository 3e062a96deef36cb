use Rattle.std.proofs.Common.{◌<◌, ◌≤◌, List, length, ap, sym, ◌∙◌, arith}
use Rattle.strat_arena.specs.declared.items.Item.{Item}
use Rattle.strat_level.specs.Memtable.{entries_held}
use Rattle.strat_base.specs.EntryView.{entry_of}
use Rattle.strat_cursor.proofs.StandLemmas.{passes_item, item_past, held_length}
use Rattle.strat_cursor.proofs.sources.stand_item.Goals as goal

pub loop-item-preserved : goal.loop-item-preserved
loop-item-preserved c =
    let low : c.loop-item.item < length c.items.result.now = search in
    let same = ap (λ (l : List Item). length l) c.items.ensures.ok in
    record {
      passes =
          passes_item c.args.query.now.view.now.tree.now.parents c.args.query.now.version c.args.last.now (entries_held c.args.query.now.view.now.pool.now c.args.list.now) c.args.item c.loop-item.item (entry_of c.entry.result) c.entry.ensures.ok
          (omega (arith, held_length c.args.query.now.view.now.pool.now c.args.list.now, low, same)) c.loop-item.invariant.passes (sym c.is_due.ensures.ok ∙ c.if-is_due.false);
      later = omega (arith, c.loop-item.invariant.later);
    }

pub returns-clause-found : goal.returns-clause-found
returns-clause-found c =
    let past : length c.items.result.now ≤ c.loop-item.item = search in
    let same = ap (λ (l : List Item). length l) c.items.ensures.ok in
    item_past c.args.query.now.view.now.tree.now.parents c.args.query.now.version (entries_held c.args.query.now.view.now.pool.now c.args.list.now) c.loop-item.item (omega (arith, held_length c.args.query.now.view.now.pool.now c.args.list.now, past, same))
