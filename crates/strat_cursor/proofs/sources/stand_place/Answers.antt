use Rattle.std.proofs.Common.{length, Some, None, ap, sym, ◌∙◌, arith}
use Rattle.strat_base.specs.EntryView.{entry_of}
use Rattle.def_bytes.specs.Arrays.{blocks_of}
use Rattle.strat_array.specs.declared.place.Place.{Place}
use Rattle.strat_array.specs.Steps.{blocks_ahead}
use Rattle.strat_base.proofs.ResultFacts.{err_of}
use Rattle.strat_array.proofs.SearchLemmas.{no_block_same}
use Rattle.strat_cursor.proofs.StandLemmas.{stood_on, stood, stands_on, held_path, near_ahead}
use Rattle.strat_cursor.proofs.sources.stand_place.Goals as goal

pub returns-in_err-at-clause-same : goal.returns-in_err-at-clause-same
returns-in_err-at-clause-same g c = stood_on _ _ _ _ _ _ _ _ _ _ _ _ _ _ _ _ c.loop-at.invariant.0 c.first_place_from.ensures.same

pub returns-in_err-at-clause-damaged : goal.returns-in_err-at-clause-damaged
returns-in_err-at-clause-damaged g c = λ b torn.
    no_block_same (g.D.Disk.view c.args.disk.now).content (g.D.Disk.view c.loop-at.disk).content (blocks_of c.args.desc.now.extents) b c.loop-at.invariant.0.looks.disk.same
    (c.in_err-at.ensures.damaged b (err_of c.from_residual.result _ _ c.from_residual.ensures.1 torn))

pub returns-then-is_due-clause-kept : goal.returns-then-is_due-clause-kept
returns-then-is_due-clause-kept g c =
    held_path c.args.query.now.view.now.tree.now.parents c.args.query.now.version c.args.last.now c.first_place_from.new.scratch c.in-Some.at.index (entry_of c.entry-entry.result) c.entry-entry.ensures.ok (sym c.is_due.ensures.ok ∙ c.if-is_due.true)

pub returns-then-is_due-clause-ok : goal.returns-then-is_due-clause-ok
returns-then-is_due-clause-ok g c = stood _ _ _ _ _ _ _ _ _ _ _ _ _ _ _ _ c.loop-at.invariant.0 c.first_place_from.ensures.same (Some c.in-Some.at) (rw c.in-Some.is at c.in_ok-at.ensures.ok)

pub returns-then-is_due-clause-same : goal.returns-then-is_due-clause-same
returns-then-is_due-clause-same g c = stood_on _ _ _ _ _ _ _ _ _ _ _ _ _ _ _ _ c.loop-at.invariant.0 c.first_place_from.ensures.same

pub loop-at-preserved : goal.loop-at-preserved
loop-at-preserved g c =
    let on = c.in_ok-at.ensures in (
      stands_on _ _ _ _ _ _ _ _ _ _ _ _ _ _ _ _ c.loop-at.invariant.0 on.same c.in-Some.at (rw c.in-Some.is at on.ok) (rw c.in-Some.is at on.found) (entry_of c.entry-entry.result) c.entry-entry.ensures.ok
          c.next-place.result (ap (λ (p : Place). p.block) c.next-place.ensures.ok) (ap (λ (p : Place). p.index) c.next-place.ensures.ok) (sym c.is_due.ensures.ok ∙ c.if-is_due.false),
      (let near = near_ahead c.loop-at.place c.in-Some.at (rw c.in-Some.is at on.end) search in
          let block = ap (λ (p : Place). p.block) c.next-place.ensures.ok in
          let index = ap (λ (p : Place). p.index) c.next-place.ensures.ok in
          omega (arith, near, block, index, c.loop-at.invariant.1)),
      on.cause.ok ∙ c.loop-at.invariant.2,
      omega (arith, on.reads.later, c.loop-at.invariant.3),
      (let room = rw c.in-Some.is at on.room in
          let same = ap (λ (p : Place). blocks_ahead c.first_place_from.new.scratch c.args.desc.now.id (length (blocks_of c.args.desc.now.extents)) (record { block = p.block; index = 0 })) c.next-place.ensures.ok in
          omega (arith, room, same, c.loop-at.invariant.4)),
    )

pub returns-clause-ok : goal.returns-clause-ok
returns-clause-ok g c = stood _ _ _ _ _ _ _ _ _ _ _ _ _ _ _ _ c.loop-at.invariant.0 c.first_place_from.ensures.same None (rw c.in_default.is at c.in_ok-at.ensures.ok)

pub returns-clause-same : goal.returns-clause-same
returns-clause-same g c = stood_on _ _ _ _ _ _ _ _ _ _ _ _ _ _ _ _ c.loop-at.invariant.0 c.first_place_from.ensures.same
