use Rattle.std.proofs.Common.{◌∙◌}
use Rattle.strat_publish.proofs.KeepingLemmas.{taken_of_made}
use Rattle.strat_publish.proofs.made.take_made.Goals as goal

pub returns-clause-filters : goal.returns-clause-filters
returns-clause-filters c g stands =
    taken_of_made g c.args.promotion c.finish-target.result.1 c.take_filters-filters.result (c.finish-target.ensures.found ∙ c.take_filters-filters.ensures.same.0) (c.take_filters-filters.ensures.ok g stands)
