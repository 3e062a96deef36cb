use Rattle.std.proofs.Common.{◌+◌, arith}
use Rattle.strat_store.proofs.FilteringLemmas.{keeps_no_more, keeps_none, keeps_nowhere}
use Rattle.strat_store.proofs.filtering.keeps_filter.Goals as goal

pub loop-above-init : goal.loop-above-init
loop-above-init c = keeps_none c.args.filters.now c.args.levels.now c.args.id

pub loop-above-preserved : goal.loop-above-preserved
loop-above-preserved c =
    keeps_no_more c.args.filters.now c.args.levels.now c.args.id (c.loop-above.above + 1) c.loop-above.invariant (c.keeps_filter_at.ensures.none c.if-keeps_filter_at.false)

pub returns-clause-none : goal.returns-clause-none
returns-clause-none c = λ off.
    keeps_nowhere c.args.filters.now c.args.levels.now c.args.id (c.loop-above.above + 1) (omega (arith, c.get-first.ensures.len, c.loop-above-test.false)) c.loop-above.invariant
