use Rattle.std.proofs.Common.{List, Option, sym, subst}
use Rattle.strat_base.specs.declared.descriptors.LevelDesc.{LevelDesc}
use Rattle.strat_memory.proofs.PlacingLemmas.{IsPlacing, placing_begins, popped_fits, placed_in}
use Rattle.strat_memory.proofs.admitting.place_levels.Goals as goal

pub loop-desc-init : goal.loop-desc-init
loop-desc-init c = subst (λ (levels : List (Option LevelDesc)). IsPlacing c.args.listed c.args.listed levels) (sym c.new-levels.ensures.ok) (placing_begins c.args.listed c.requires.fits)

pub level_if_tags_disjoint-requires : goal.level_if_tags_disjoint-requires
level_if_tags_disjoint-requires c = record { fits = popped_fits c.args.listed c.loop-desc.left c.pop.new.self c.in-Some.desc c.loop-desc.levels c.loop-desc.invariant c.in-Some.ensures.found }

pub loop-desc-preserved-in-Some-2 : goal.loop-desc-preserved-in-Some-2
loop-desc-preserved-in-Some-2 c =
    placed_in c.args.listed c.loop-desc.left c.pop.new.self c.in-Some.desc c.in-Some-2.level c.loop-desc.levels c.set.new.self c.loop-desc.invariant c.in-Some.ensures.found
    (rw c.in-Some-2.is at c.in_ok-level.ensures.ok) c.set.ensures.ok

pub loop-desc-preserved : goal.loop-desc-preserved
loop-desc-preserved c =
    placed_in c.args.listed c.loop-desc.left c.pop.new.self c.in-Some.desc c.in-Some-2.level c.loop-desc.levels c.set.new.self c.loop-desc.invariant c.in-Some.ensures.found
    (rw c.in-Some-2.is at c.in_ok-level.ensures.ok) c.set.ensures.ok
