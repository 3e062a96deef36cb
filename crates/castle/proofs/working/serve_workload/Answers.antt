use Rattle.std.proofs.Common.{◌≡◌, Some, None, Err, ap, refl, sym, subst, inl, inr}
use Rattle.def_crash.proofs.MomentLemmas.{leaves_refl}
use Rattle.strat_model.specs.declared.ended.Ended.TheVariants as ended
use Rattle.strat_open.specs.Following.{IsUnchanged}
use Rattle.strat_loop.specs.World.{world}
use Rattle.castle.proofs.ServedLemmas.{workload_end, workload_leaves}
use Rattle.castle.proofs.working.serve_workload.Goals as goal

pub returns-in-Err-NoMemory-clause-ok : goal.returns-in-Err-NoMemory-clause-ok
returns-in-Err-NoMemory-clause-ok g c = λ f exposed.
    let same : c.format.new.disk ≡ c.args.disk.now = c.in-Err-NoMemory.ensures.same (ap Err c.in-Err-NoMemory.field-0-is) in
    record {
      ends = tt;
      made = inl (record {
        ends = inl refl;
        moments = c.format.ensures.images f exposed;
        kept = c.format.ensures.kept;
        same = λ is. subst (λ (d : g.row.D.Denot). IsUnchanged (g.D.Disk.view c.args.disk.now) (g.D.Disk.view d)) (sym same) (refl, leaves_refl (g.D.Disk.view c.args.disk.now));
      });
    }

pub returns-in-Err-Device-clause-ok : goal.returns-in-Err-Device-clause-ok
returns-in-Err-Device-clause-ok g c = λ f exposed. record {
  ends = tt;
  made = inl (record {
    ends = inr refl;
    moments = c.format.ensures.images f exposed;
    kept = c.format.ensures.kept;
    same = λ is. let e : ended.Device ≡ ended.NoMemory = is in cc;
  });
}

pub returns-clause-end : goal.returns-clause-end
returns-clause-end g c =
    let before = world (Some c.new-frames.result) 0 None 0 (g.D.Disk.view c.format.new.disk) (g.D.Disk.faults c.format.new.disk) in
    let now = world (Some c.serve.new.source) 0 None 0 (g.D.Disk.view c.serve.new.disk) (g.D.Disk.faults c.serve.new.disk) in
    (workload_end c.args.seed c.args.count c.ranges.count.fits c.serve.result before now (ap Some c.new-frames.ensures) refl refl refl refl c.serve.ensures.cause c.serve.ensures.ok).0

pub returns-clause-ok : goal.returns-clause-ok
returns-clause-ok g c = λ f exposed.
    let d0 = g.D.Disk.view c.args.disk.now in
    let d1 = g.D.Disk.view c.format.new.disk in
    let d2 = g.D.Disk.view c.serve.new.disk in
    let before = world (Some c.new-frames.result) 0 None 0 d1 (g.D.Disk.faults c.format.new.disk) in
    let now = world (Some c.serve.new.source) 0 None 0 d2 (g.D.Disk.faults c.serve.new.disk) in
    let ends = workload_end c.args.seed c.args.count c.ranges.count.fits c.serve.result before now (ap Some c.new-frames.ensures) refl refl refl refl c.serve.ensures.cause c.serve.ensures.ok in
    workload_leaves d0 d1 d2 c.format.ensures.time c.serve.ensures.time (c.format.ensures.images f exposed) (c.in-Ok.ensures.ok f exposed)
    c.args.seed c.args.count c.ranges.count.fits (Some c.new-frames.result) (Some c.serve.new.source) (g.D.Disk.faults c.format.new.disk) (g.D.Disk.faults c.serve.new.disk) (ap Some c.new-frames.ensures)
    c.serve.result ends.0 ends.1 c.serve.ensures.ok c.serve.ensures.found
