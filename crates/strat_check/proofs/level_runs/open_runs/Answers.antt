use Rattle.std.proofs.Common.{◌≡◌, ◌∙◌, ℕ, List, map, length, take, sym, subst, arith, length-take}
use Rattle.strat_base.proofs.ResultFacts.{err_of}
use Rattle.strat_base.specs.declared.descriptors.ArrayDesc.{ArrayDesc}
use Rattle.def_crash.proofs.MomentLemmas.{reads_trans}
use Rattle.strat_check.specs.LevelRuns.{OpensRun, AreLevelRuns}
use Rattle.strat_check.specs.MarkedRuns.{marked_seen}
use Rattle.strat_check.proofs.LevelRunLemmas.{opened_more, array_next, array_blamed, array_reads, on_err}
use Rattle.strat_check.proofs.level_runs.open_runs.Goals as goal

pub open_run-requires-clause-fits : goal.open_run-requires-clause-fits
open_run-requires-clause-fits g c = c.requires.fits c.index-arrays-i.result (c.loop-i.i, c.loop-i-test.true, sym c.index-arrays-i.is)

pub returns-in_err-open_run-clause-same : goal.returns-in_err-open_run-clause-same
returns-in_err-open_run-clause-same g c = reads_trans c.loop-i.invariant.1 c.open_run.ensures.same

pub returns-in_err-open_run-clause-damaged : goal.returns-in_err-open_run-clause-damaged
returns-in_err-open_run-clause-damaged g c = λ b torn.
    array_blamed c.args.arrays.now c.loop-i.i c.index-arrays-i.result (g.D.Disk.view c.args.disk.now) (g.D.Disk.view c.loop-i.disk) b c.loop-i-test.true c.index-arrays-i.is c.loop-i.invariant.1
    (c.in_err-open_run.ensures.damaged b (err_of c.from_residual.result _ _ c.from_residual.ensures.1 torn))

pub returns-in_err-open_run-clause-err : goal.returns-in_err-open_run-clause-err
returns-in_err-open_run-clause-err g c =
    on_err c.from_residual.result _
    (array_reads c.args.versions (g.D.Disk.view c.args.disk.now) c.args.arrays.now c.loop-i.i c.index-arrays-i.result _ _ _ _ c.loop-i-test.true c.index-arrays-i.is c.loop-i.invariant.0 c.in_err-open_run.ensures.err)

pub loop-i-preserved : goal.loop-i-preserved
loop-i-preserved g c =
    let size : length (take c.loop-i.i c.args.arrays.now) ≡ c.loop-i.i = omega (arith, c.loop-i-test.true, length-take {A = ArrayDesc}) in (
      subst (λ (xs : List ArrayDesc). AreLevelRuns c.args.versions (g.D.Disk.view c.args.disk.now) xs (map marked_seen c.open_run.new.runs.items) (g.D.Disk.reads c.args.disk.now) (g.D.Disk.reads c.open_run.new.disk))
          (sym (array_next c.args.arrays.now c.loop-i.i c.index-arrays-i.result c.loop-i-test.true c.index-arrays-i.is))
          (opened_more c.args.versions (g.D.Disk.view c.args.disk.now) (g.D.Disk.view c.loop-i.disk) (take c.loop-i.i c.args.arrays.now) c.index-arrays-i.result _ _ _ _ _ c.loop-i.invariant.0 c.loop-i.invariant.1
          (subst (λ (k : ℕ). OpensRun c.args.versions (g.D.Disk.view c.loop-i.disk) k c.index-arrays-i.result (map marked_seen c.loop-i.runs.items) (map marked_seen c.open_run.new.runs.items) (g.D.Disk.reads c.loop-i.disk) (g.D.Disk.reads c.open_run.new.disk))
          (sym size) c.in_ok-open_run.ensures.ok)),
      reads_trans c.loop-i.invariant.1 c.open_run.ensures.same,
      c.in_ok-open_run.ensures.cause.ok ∙ c.loop-i.invariant.2,
    )
