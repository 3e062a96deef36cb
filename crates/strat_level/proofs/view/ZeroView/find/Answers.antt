use Rattle.std.proofs.Common.{Some, None, ap, ◌∙◌}
use Rattle.strat_level.specs.Memtable.{ItemList}
use Rattle.strat_level.proofs.RangeLemmas.{held_range, held_descends, held_lives}
use Rattle.strat_level.proofs.view.ZeroView.find.Goals as goal

pub live_in-requires-clause-kept : goal.live_in-requires-clause-kept
live_in-requires-clause-kept c =
    let arena = ap (λ (l : ItemList). l.arena) c.self.view_is in
    let items = ap (λ (l : ItemList). l.items) c.self.view_is in
    let range = held_range c.args.pool.now c.args.self.now c.self.inside.arena c.deref.result.now c.args.key.now c.args.v c.key_range-from.result.0 c.key_range-from.result.1 arena (c.deref.ensures.value ∙ items) c.key_range-from.ensures.ok in
    held_descends c.args.pool.now c.args.self.now c.requires.kept c.args.key.now c.args.v c.key_range-from.result.0 c.key_range-from.result.1 range c.deref-2.result.now (c.deref-2.ensures.value ∙ items)

pub returns-in_err-place-clause-ok : goal.returns-in_err-place-clause-ok
returns-in_err-place-clause-ok c =
    let arena = ap (λ (l : ItemList). l.arena) c.self.view_is in
    let items = ap (λ (l : ItemList). l.items) c.self.view_is in
    let range = held_range c.args.pool.now c.args.self.now c.self.inside.arena c.deref.result.now c.args.key.now c.args.v c.key_range-from.result.0 c.key_range-from.result.1 arena (c.deref.ensures.value ∙ items) c.key_range-from.ensures.ok in
    rw c.from_residual.ensures (held_lives c.args.pool.now c.args.self.now c.requires.kept c.args.key.now c.args.v c.key_range-from.result.0 c.key_range-from.result.1 range c.deref-2.result.now (c.deref-2.ensures.value ∙ items)
    c.args.tree.now.parents c.count-versions.ensures.kept None c.in_err-place.ensures.ok)

pub returns-clause-ok : goal.returns-clause-ok
returns-clause-ok c =
    let arena = ap (λ (l : ItemList). l.arena) c.self.view_is in
    let items = ap (λ (l : ItemList). l.items) c.self.view_is in
    let range = held_range c.args.pool.now c.args.self.now c.self.inside.arena c.deref.result.now c.args.key.now c.args.v c.key_range-from.result.0 c.key_range-from.result.1 arena (c.deref.ensures.value ∙ items) c.key_range-from.ensures.ok in
    held_lives c.args.pool.now c.args.self.now c.requires.kept c.args.key.now c.args.v c.key_range-from.result.0 c.key_range-from.result.1 range c.deref-2.result.now (c.deref-2.ensures.value ∙ items)
    c.args.tree.now.parents c.count-versions.ensures.kept (Some c.in_ok-place.place) c.in_ok-place.ensures.ok
