use Rattle.strat_promote.proofs.PlanningLemmas.{kept_new}
use Rattle.strat_promote.proofs.planning.try_filter.Goals as goal

pub returns-then-entries-le-ENTRIES_MAX : goal.returns-then-entries-le-ENTRIES_MAX
returns-then-entries-le-ENTRIES_MAX c =
    let kept = c.keep_filter-kept.ensures in
    record { ok = λ id new. kept_new c.keep_filter-kept.result id _ _ _ kept.ok kept.err kept.kept new }
