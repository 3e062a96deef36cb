use Rattle.std.proofs.Common.{◌≡◌, Some, refl, sym, ◌∙◌, arith}
use Rattle.std.specs.List.{slice_get}
use Rattle.std.proofs.lemmas.Option.{slice_get_read}
use Rattle.strat_promote.proofs.FilterLemmas.{none_past, same_past, kept_at, set_without}
use Rattle.strat_promote.proofs.filters.take_at.Goals as goal

pub returns-then-q-len-clause-ok : goal.returns-then-q-len-clause-ok
returns-then-q-len-clause-ok c = none_past c.args.writers.now.items c.args.q (omega arith)

pub returns-then-q-len-clause-same : goal.returns-then-q-len-clause-same
returns-then-q-len-clause-same c = same_past c.args.writers.now.items c.args.q (omega arith)

pub returns-clause-ok : goal.returns-clause-ok
returns-clause-ok c =
    let there : slice_get c.args.writers.now.items c.args.q ≡ Some c.index_mut.result.now =
    slice_get_read c.args.writers.now.items _ c.args.q c.index_mut.result.now refl (omega arith) c.index_mut.ensures.value in
    c.take_filter.ensures.ok ∙ sym (kept_at c.args.writers.now.items c.args.q c.index_mut.result.now there)

pub returns-clause-same : goal.returns-clause-same
returns-clause-same c =
    let there : slice_get c.args.writers.now.items c.args.q ≡ Some c.index_mut.result.now =
    slice_get_read c.args.writers.now.items _ c.args.q c.index_mut.result.now refl (omega arith) c.index_mut.ensures.value in
    set_without c.args.writers.now.items c.args.q c.index_mut.result.now c.take_filter.new.self there c.take_filter.ensures.same
