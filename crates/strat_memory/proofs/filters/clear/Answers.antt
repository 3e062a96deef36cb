use Rattle.std.proofs.Common.{slice_set, arith, ap, ◌∙◌}
use Rattle.strat_memory.proofs.ClearLemmas.{front_grows}
use Rattle.strat_memory.specs.Filters.{LevelFilters, no_filters}
use Rattle.strat_memory.proofs.filters.clear.Goals as goal

pub loop-i-preserved : goal.loop-i-preserved
loop-i-preserved c =
    ap (λ (f : LevelFilters). slice_set c.loop-i.levels c.loop-i.i f) c.none.ensures.ok
    ∙ front_grows c.loop-i.i no_filters c.loop-i.levels c.args.levels.now (omega (arith, c.loop-i-test.true, c.requires.room)) c.loop-i.invariant
