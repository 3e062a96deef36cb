use Rattle.std.proofs.Common.{◌+◌, length, refl, ap, subst, ◌∙◌, arith}
use Rattle.std.specs.List.{find}
use Rattle.strat_base.specs.EntryView.{entry_of}
use Rattle.def_bytes.specs.Arrays.{blocks_of}
use Rattle.strat_array.specs.Told.{TheirPairs, TellsFound, AddsPair}
use Rattle.strat_array.specs.declared.place.Place.{Place}
use Rattle.strat_array.specs.Steps.{blocks_ahead, left_from}
use Rattle.strat_array.specs.Walk.{is_seen_at}
use Rattle.strat_array.proofs.KeptLemmas.{looks_trans}
use Rattle.strat_array.proofs.FindLemmas.{walks_on, walk_answers, walk_ends, judged_adds}
use Rattle.strat_base.proofs.ResultFacts.{err_of}
use Rattle.strat_array.proofs.SearchLemmas.{no_block_same}
use Rattle.strat_array.proofs.lookup.live_from.Goals as goal

pub returns-in_err-at-clause-same : goal.returns-in_err-at-clause-same
returns-in_err-at-clause-same g c = looks_trans _ _ _ _ _ _ _ _ _ _ _ c.loop-at.invariant.0.looks c.first_place_from.ensures.same

pub returns-in_err-at-clause-damaged : goal.returns-in_err-at-clause-damaged
returns-in_err-at-clause-damaged g c = λ b torn.
    no_block_same (g.D.Disk.view c.args.disk.now).content (g.D.Disk.view c.loop-at.disk).content (blocks_of c.args.desc.now.extents) b c.loop-at.invariant.0.looks.disk.same
    (c.in_err-at.ensures.damaged b (err_of c.from_residual.result _ _ c.from_residual.ensures.1 torn))

pub returns-in-Some-judge-clause-found : goal.returns-in-Some-judge-clause-found
returns-in-Some-judge-clause-found g c = λ lists stands up from.
    let on = c.in_ok-at.ensures in
    subst (λ (p : TheirPairs). TellsFound (find (is_seen_at c.args.tree.now.parents c.args.key.now c.args.v) (left_from lists c.args.place)) c.args.key.now p c.judge.new.out c.in-Some-judge.seen) c.loop-at.invariant.1
    (walk_answers _ _ _ _ _ _ _ _ _ _ _ _ _ _ _ _ c.loop-at.invariant.0 on.same c.in-Some.at (rw c.in-Some.is at on.ok) (rw c.in-Some.is at on.found) (entry_of c.entry-entry.result) c.entry-entry.ensures.ok
    (record { block = c.in-Some.at.block; index = c.in-Some.at.index + 1 }) refl refl _ _ c.in-Some-judge.seen c.in-Some-judge.ensures.ok lists stands up from)

pub returns-in-Some-judge-clause-same : goal.returns-in-Some-judge-clause-same
returns-in-Some-judge-clause-same g c = looks_trans _ _ _ _ _ _ _ _ _ _ _ c.loop-at.invariant.0.looks c.first_place_from.ensures.same

pub loop-at-preserved : goal.loop-at-preserved
loop-at-preserved g c =
    let on = c.in_ok-at.ensures in (
      walks_on _ _ _ _ _ _ _ _ _ _ _ _ _ _ _ _ c.loop-at.invariant.0 on.same c.in-Some.at (rw c.in-Some.is at on.ok) (rw c.in-Some.is at on.found) (entry_of c.entry-entry.result) c.entry-entry.ensures.ok
          c.next-place.result (ap (λ (p : Place). p.block) c.next-place.ensures.ok) (ap (λ (p : Place). p.index) c.next-place.ensures.ok) _ _ c.in_default-judge.ensures.ok,
      c.in_default-judge.ensures.ok.1 ∙ c.loop-at.invariant.1,
      on.cause.ok ∙ c.loop-at.invariant.2,
      omega (arith, on.reads.later, c.loop-at.invariant.3),
      (let room = rw c.in-Some.is at on.room in
          let same = ap (λ (p : Place). blocks_ahead c.first_place_from.new.scratch c.args.desc.now.id (length (blocks_of c.args.desc.now.extents)) (record { block = p.block; index = 0 })) c.next-place.ensures.ok in
          omega (arith, room, same, c.loop-at.invariant.4)),
    )

pub returns-clause-found : goal.returns-clause-found
returns-clause-found g c = λ lists stands up from.
    walk_ends _ _ _ _ _ _ _ _ _ _ _ _ _ _ _ _ c.loop-at.invariant.0 c.first_place_from.ensures.same (rw c.in_default.is at c.in_ok-at.ensures.ok) _ _ c.loop-at.invariant.1 lists stands up from

pub returns-clause-same : goal.returns-clause-same
returns-clause-same g c = looks_trans _ _ _ _ _ _ _ _ _ _ _ c.loop-at.invariant.0.looks c.first_place_from.ensures.same

pub returns-in-Some-judge-clause-len : goal.returns-in-Some-judge-clause-len
returns-in-Some-judge-clause-len g c =
    subst (λ (p : TheirPairs). AddsPair p c.judge.new.out c.in-Some-judge.seen) c.loop-at.invariant.1
    (judged_adds c.args.tree.now.parents c.args.key.now c.args.v (entry_of c.entry-entry.result) c.loop-at.out c.judge.new.out c.in-Some-judge.seen c.in-Some-judge.ensures.ok)
