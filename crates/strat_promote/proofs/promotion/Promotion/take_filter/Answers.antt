use Rattle.std.proofs.Common.{◌≤◌, refl, sym, arith}
use Rattle.strat_promote.specs.Stages.{stage_writers}
use Rattle.strat_promote.proofs.FilterLemmas.{filter_found, same_blocks, still_filtered, still_owned}
use Rattle.strat_promote.proofs.promotion.Promotion.take_filter.Goals as goal

pub returns-in-Some-clause-ok : goal.returns-in-Some-clause-ok
returns-in-Some-clause-ok c = λ g a es filtered here named on.
    let le : c.args.self.now.task.first ≤ c.args.id = omega arith in
    filter_found g c.args.self.now.task.first (stage_writers c.args.self.now.stage) c.args.self.now.level c.args.id c.in-Some.filter a es le (sym c.in-Some.ensures.ok) filtered here named on

pub returns-in-Some-clause-kept : goal.returns-in-Some-clause-kept
returns-in-Some-clause-kept c = λ g filtered. still_filtered g _ _ _ _ c.args.self.now.level c.take_kept.ensures.same filtered

pub returns-in-Some-clause-same : goal.returns-in-Some-clause-same
returns-in-Some-clause-same c = record {
  ended = refl;
  task = refl;
  level = refl;
  extents = same_blocks _ _ _ c.take_kept.ensures.same;
  owned = still_owned _ _ _ _ c.take_kept.ensures.same;
}

pub returns-in-None-clause-kept : goal.returns-in-None-clause-kept
returns-in-None-clause-kept c = λ g filtered. still_filtered g _ _ _ _ c.args.self.now.level c.take_kept.ensures.same filtered

pub returns-in-None-clause-same : goal.returns-in-None-clause-same
returns-in-None-clause-same c = record {
  ended = refl;
  task = refl;
  level = refl;
  extents = same_blocks _ _ _ c.take_kept.ensures.same;
  owned = still_owned _ _ _ _ c.take_kept.ensures.same;
}
