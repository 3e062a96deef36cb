use Rattle.std.proofs.Common.{◌∙◌, sym, arith}
use Rattle.strat_cursor.proofs.PickLemmas.{IsNumbered}
use Rattle.strat_cursor.proofs.ThereLemmas.{packs_none, packs_more, packs_same, packs_all}
use Rattle.strat_cursor.proofs.picking.pick.Goals as goal
use Rattle.strat_cursor.proofs.picking.pick.Goals.{then-is_place, else-is_place}

pub loop-i-init : goal.loop-i-init
loop-i-init c = packs_none c.args.view.now c.args.v _ (omega arith)

pub loop-i-preserved : goal.loop-i-preserved
loop-i-preserved c =
    let numbered : IsNumbered c.args.view.now c.args.v c.loop-i.i c.source_at-source.result = (c.source_at-source.ensures.kept, c.source_at-source.ensures.ok, c.source_at-source.ensures.found) in
    elim c.if-is_place.branch [
      | then-is_place w ↦
          packs_more c.args.view.now c.args.v c.loop-i.i c.loop-i.count c.loop-i.places c.loop-i.invariant c.source_at-source.result numbered c.if-is_place.count c.if-is_place.places
          (omega (arith, c.loop-i.invariant.low, c.loop-i-test.true)) (sym c.is_place.ensures.ok ∙ w.if-is_place.true) w.places-is w.count-is
      | else-is_place w ↦
          packs_same c.args.view.now c.args.v c.loop-i.i c.loop-i.count c.loop-i.places c.loop-i.invariant c.source_at-source.result numbered c.if-is_place.count c.if-is_place.places
          (sym c.is_place.ensures.ok ∙ w.if-is_place.false) w.places-is w.count-is
    ]

pub returns-clause-ok : goal.returns-clause-ok
returns-clause-ok c = packs_all c.args.view.now c.args.v c.loop-i.i c.loop-i.count c.loop-i.places c.loop-i.invariant c.array_at-first.ensures.kept (omega (arith, c.loop-i-test.false, c.loop-i.auto.i-end))
