use Rattle.std.proofs.Common.{length, sym, ap, ◌∙◌, List, Option}
use Rattle.strat_base.specs.declared.descriptors.LevelDesc.{LevelDesc}
use Rattle.strat_level.proofs.LevelsLemmas.{none_past}
use Rattle.strat_level.proofs.levels.Levels.get.Goals as goal

pub returns-else-number-ge1-clause-ok : goal.returns-else-number-ge1-clause-ok
returns-else-number-ge1-clause-ok c =
    none_past c.args.self.now c.args.number (ap (λ (xs : List (Option LevelDesc)). length xs) (sym c.self.view_is) ∙ c.self.invariant) c.else-number-ge1.either
