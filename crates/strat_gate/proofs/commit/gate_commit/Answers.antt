use Rattle.def_crash.proofs.MomentLemmas.{passes_trans}
use Rattle.strat_gate.proofs.RaisingLemmas.{first_tears, first_moment, both_tear, second_moment, all_content, failed}
use Rattle.strat_gate.proofs.commit.gate_commit.Goals as goal

pub returns-in_err-write_after-clause-ok : goal.returns-in_err-write_after-clause-ok
returns-in_err-write_after-clause-ok g c =
    let w = c.write_after.ensures.ok in
    failed _ _ c.args.gate c.args.bytes.now _ (first_tears _ _ c.args.gate c.args.bytes.now w.images w.time) w.time (first_moment _ _ c.args.gate c.args.bytes.now w.images w.time) c.from_residual.ensures.0

pub returns-in_err-gate_raise-clause-ok : goal.returns-in_err-gate_raise-clause-ok
returns-in_err-gate_raise-clause-ok g c =
    let w = c.in_ok-write_after.ensures.ok in
    let r = c.gate_raise.ensures.ok in
    failed _ _ c.args.gate c.args.bytes.now _
    (both_tear _ _ c.args.gate c.args.bytes.now w.images w.time _ r.images r.time)
    (passes_trans w.time r.time)
    (second_moment _ _ c.args.gate c.args.bytes.now w.images w.time _ r.images r.time w.content w.settled)
    c.from_residual-in_err-gate_raise.ensures.0

pub returns-clause-ok : goal.returns-clause-ok
returns-clause-ok g c =
    let w = c.in_ok-write_after.ensures.ok in
    let r = c.in_ok-gate_raise.ensures.ok in
    record {
      images = both_tear _ _ c.args.gate c.args.bytes.now w.images w.time _ r.images r.time;
      time = passes_trans w.time r.time;
      any_moment = second_moment _ _ c.args.gate c.args.bytes.now w.images w.time _ r.images r.time w.content w.settled;
      content = all_content _ _ c.args.gate c.args.bytes.now w.images w.time _ r.images r.time w.content r.content;
      settled = r.settled;
    }
