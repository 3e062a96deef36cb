use Rattle.std.proofs.Common.{◌-◌, ◌++◌, ◌∷◌, suc, ◌≡◌, List, drop, replicate, slice_set, ap, ◌∙◌, arith}
use Rattle.strat_memory.proofs.ClearLemmas.{set_front}
use Rattle.strat_memory.specs.Filters.{LevelFilters, filters_after, no_filters}
use Rattle.strat_memory.proofs.filters.Filters.replace.Goals as goal

pub returns-clause-ok : goal.returns-clause-ok
returns-clause-ok c =
    let same : suc (c.args.target - 1) ≡ c.args.target = omega (arith, c.requires.fits.0) in
    ap (λ (fs : List LevelFilters). slice_set fs (c.args.target - 1) c.args.made) c.clear.ensures.ok
    ∙ set_front (c.args.target - 1) no_filters c.args.made c.self.inside.levels (omega (arith, c.self.invariant, c.requires.fits.0, c.requires.fits.1))
    ∙ (λ i. replicate (c.args.target - 1) no_filters ++ c.args.made ∷ drop (same i) c.self.inside.levels)
    ∙ ap (λ (fs : List LevelFilters). filters_after fs c.args.target c.args.made) c.self.view_is
