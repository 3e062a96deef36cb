use Rattle.std.proofs.Common.{◌≡◌, ◌++◌, ℕ, List, length, ap, sym, ◌∙◌, subst, arith, true, true≢false}
use Rattle.strat_model.specs.Pairs.{Pairs}
use Rattle.strat_cursor.specs.Ahead.{range_after}
use Rattle.strat_cursor.specs.Emitting.{AreUpTo}
use Rattle.strat_cursor.proofs.TournamentLemmas.{won_bracket, low, leads_all, none_ahead, head_there}
use Rattle.strat_cursor.proofs.ThroughLemmas.{through_trans}
use Rattle.strat_cursor.proofs.EmitLemmas.{at_hand}
use Rattle.strat_cursor.proofs.TellLemmas.{entry_some, ended, none_left, tells_on, handled_fills, handled_grows, handled_len, handled_none, handled_spent, told_same}
use Rattle.strat_cursor.proofs.scanning.tell_all.Goals as goal

pub leader-requires-clause-kept : goal.leader-requires-clause-kept
leader-requires-clause-kept g c = at_hand _ _ _ _ _ c.loop-w.invariant.settled

pub emit_head-requires-clause-fits : goal.emit_head-requires-clause-fits
emit_head-requires-clause-fits g c = low _ _ _ c.loop-w.invariant.settled.same c.in-Some.w c.in-Some.ensures.found.0

pub emit_head-requires-clause-found : goal.emit_head-requires-clause-found
emit_head-requires-clause-found g c = head_there _ _ _ c.in-Some.w c.in-Some.ensures.found.1

pub emit_head-requires-clause-kept : goal.emit_head-requires-clause-kept
emit_head-requires-clause-kept g c = at_hand _ _ _ _ _ c.loop-w.invariant.settled

pub advance_leader-requires-clause-fits : goal.advance_leader-requires-clause-fits
advance_leader-requires-clause-fits g c = (c.requires.fits, low _ _ _ c.loop-w.invariant.settled.same c.in-Some.w c.in-Some.ensures.found.0)

pub advance_leader-requires-clause-room : goal.advance_leader-requires-clause-room
advance_leader-requires-clause-room g c =
    let e = entry_some _ (head_there _ _ _ c.in-Some.w c.in-Some.ensures.found.1) in
    rw c.deref.ensures.value (handled_spent e.0 c.args.query.now.hi.now c.args.query.now.limit _ _ _ _ _ e.1 (c.emit_head.ensures.fits e.0 e.1) (c.in_default-emit_head.ensures.ok e.0 e.1))

pub returns-in-Some-emit_head-clause-ok : goal.returns-in-Some-emit_head-clause-ok
returns-in-Some-emit_head-clause-ok g c = λ f lo m exposed own up seen.
    let e = entry_some _ (head_there _ _ _ c.in-Some.w c.in-Some.ensures.found.1) in
    let handles = c.in-Some-emit_head.ensures.ok e.0 e.1 in
    let both = c.loop-w.invariant.telling.up f lo m exposed own up seen in (
      ended _ _ c.args.query.now.view.now c.count-versions.ensures.kept c.args.query.now.version c.args.query.now.hi.now c.args.query.now.sources.now _ _ _ _ _ _ _ _ c.requires.same c.loop-w.invariant.telling c.loop-w.invariant.settled c.in-Some.w (low _ _ _ c.loop-w.invariant.settled.same c.in-Some.w c.in-Some.ensures.found.0) e.0
          (c.emit_head.ensures.fits e.0 e.1) (leads_all _ _ _ c.in-Some.w c.in-Some.ensures.ok) e.1 c.args.query.now.limit c.emit_head.new.last.items c.emit_head.new.out c.in-Some-emit_head.more c.loop-w.invariant.few handles f lo m exposed own up seen,
      λ on.
          let same = told_same e.0 c.args.query.now.hi.now c.args.query.now.limit c.loop-w.last.items c.emit_head.new.last.items c.loop-w.out c.emit_head.new.out c.in-Some-emit_head.more on handles in (
            subst (λ (l : List ℕ). AreUpTo f c.loop-w.cache c.args.query.now.view.now.pool.now c.args.query.now.view.now.tree.now.parents c.args.query.now.version lo l c.args.query.now.sources.now c.loop-w.positions) (sym same.0) both.0,
            both.1 ∙ (λ i. sym same.1 i ++ range_after m lo c.args.query.now.hi.now (sym same.0 i)),
          ),
    )

pub returns-in-Some-emit_head-clause-kept : goal.returns-in-Some-emit_head-clause-kept
returns-in-Some-emit_head-clause-kept g c =
    let e = entry_some _ (head_there _ _ _ c.in-Some.w c.in-Some.ensures.found.1) in
    let same = handled_none e.0 c.args.query.now.hi.now c.args.query.now.limit c.loop-w.last.items c.emit_head.new.last.items c.loop-w.out c.emit_head.new.out c.in-Some-emit_head.more (c.in-Some-emit_head.ensures.ok e.0 e.1) in (
      λ on. (c.loop-w.invariant.settled, c.loop-w.invariant.won),
      omega (arith, c.loop-w.invariant.fewer, ap (λ (ps : Pairs). length ps) same),
      c.loop-w.invariant.reads,
    )

pub returns-in-Some-emit_head-clause-len : goal.returns-in-Some-emit_head-clause-len
returns-in-Some-emit_head-clause-len g c =
    let e = entry_some _ (head_there _ _ _ c.in-Some.w c.in-Some.ensures.found.1) in
    handled_fills e.0 c.args.query.now.hi.now c.args.query.now.limit c.loop-w.last.items c.emit_head.new.last.items c.loop-w.out c.emit_head.new.out c.in-Some-emit_head.more c.loop-w.invariant.few (c.in-Some-emit_head.ensures.ok e.0 e.1)

pub returns-in-Some-emit_head-clause-room : goal.returns-in-Some-emit_head-clause-room
returns-in-Some-emit_head-clause-room g c = (
  c.emit_head.ensures.room,
  c.loop-w.invariant.same,
  won_bracket _ _ _ _ c.loop-w.invariant.settled.same c.loop-w.invariant.won,
)

pub loop-w-preserved : goal.loop-w-preserved
loop-w-preserved g c =
    let e = entry_some _ (head_there _ _ _ c.in-Some.w c.in-Some.ensures.found.1) in
    let handles = c.in_default-emit_head.ensures.ok e.0 e.1 in
    let on = c.in_ok-advance_leader.ensures in
    record {
      telling =
          tells_on _ _ c.args.query.now.view.now c.count-versions.ensures.kept c.args.query.now.version c.args.query.now.hi.now c.args.query.now.sources.now _ _ _ _ _ _ _ _ c.requires.same c.loop-w.invariant.telling c.loop-w.invariant.settled c.in-Some.w (low _ _ _ c.loop-w.invariant.settled.same c.in-Some.w c.in-Some.ensures.found.0) e.0
          (c.emit_head.ensures.fits e.0 e.1) (leads_all _ _ _ c.in-Some.w c.in-Some.ensures.ok) e.1 _ c.args.query.now.limit c.advance_leader.new.cache c.emit_head.new.last.items c.advance_leader.new.positions c.emit_head.new.out handles on.same (rw (sym c.deref.ensures.value) on.ok);
      settled = on.kept.0;
      won = on.kept.1;
      few = handled_len e.0 c.args.query.now.hi.now c.args.query.now.limit _ _ _ _ c.loop-w.invariant.few handles;
      room = c.emit_head.ensures.room;
      same = on.len.0 ∙ c.loop-w.invariant.same;
      faults = on.cause.ok ∙ c.loop-w.invariant.faults;
      later = omega (arith, on.reads.later, c.loop-w.invariant.later);
      fewer = omega (arith, on.end.0, c.loop-w.invariant.fewer, handled_grows e.0 c.args.query.now.hi.now c.args.query.now.limit _ _ _ _ handles);
      reads = omega (arith, on.end.1, c.loop-w.invariant.reads);
    }

pub returns-in_err-advance_leader-clause-same : goal.returns-in_err-advance_leader-clause-same
returns-in_err-advance_leader-clause-same g c = through_trans _ _ _ _ _ _ _ c.loop-w.invariant.telling.looks c.advance_leader.ensures.same

pub returns-clause-ok : goal.returns-clause-ok
returns-clause-ok g c = λ f lo m exposed own up seen. (
  none_left _ _ c.args.query.now.view.now c.count-versions.ensures.kept c.args.query.now.version c.args.query.now.hi.now c.args.query.now.sources.now _ _ _ _ _ _ _ _ c.requires.same c.loop-w.invariant.telling c.loop-w.invariant.settled c.args.query.now.limit (none_ahead _ _ _ c.in_default.ensures.none) c.loop-w.invariant.few f lo m exposed own up seen,
  λ on. absurd (true≢false (sym on)),
)

pub returns-clause-kept : goal.returns-clause-kept
returns-clause-kept g c = (λ on. absurd (true≢false (sym on)), c.loop-w.invariant.fewer, c.loop-w.invariant.reads)

pub returns-clause-room : goal.returns-clause-room
returns-clause-room g c = (
  c.loop-w.invariant.room,
  c.loop-w.invariant.same,
  won_bracket _ _ _ _ c.loop-w.invariant.settled.same c.loop-w.invariant.won,
)
