use Rattle.std.proofs.Common.{◌≡◌, sym, ap, ◌∙◌}
use Rattle.std.specs.List.{list_any}
use Rattle.strat_base.specs.declared.descriptors.LevelDesc.{LevelDesc}
use Rattle.strat_store.specs.Filtering.{has_id}
use Rattle.strat_store.proofs.FilteringLemmas.{keeps_from}
use Rattle.strat_store.proofs.filtering.keeps_filter_at.Goals as goal

pub returns-then-has-clause-ok : goal.returns-then-has-clause-ok
returns-then-has-clause-ok c = λ any.
    let arrays : c.as_slice.result.now ≡ c.in-Some.level.now.arrays = c.as_slice.ensures.ok ∙ ap (λ (l : LevelDesc). l.arrays) c.desc.ensures.ok in
    keeps_from c.args.filters.now c.args.levels.now c.args.number c.args.id c.in-Some.level.now (sym (rw c.in-Some.is at c.get.ensures.ok)) (sym c.has.ensures.ok ∙ c.if-has.true)
    (ap (list_any (has_id c.args.id)) (sym arrays) ∙ sym c.has_array.ensures.ok ∙ any)
