use Rattle.std.proofs.Common.{◌∙◌, ◌+◌, arith}
use Rattle.strat_base.proofs.ResultFacts.{err_of}
use Rattle.def_crash.proofs.MomentLemmas.{reads_trans}
use Rattle.strat_level.specs.Levels.{level_numbered}
use Rattle.strat_promote.specs.Job.{arrays_to}
use Rattle.strat_promote.specs.Opening.{arrays_if_any}
use Rattle.strat_promote.proofs.OpeningLemmas.{level_part, level_next, part_readable, part_blamed, part_reads, opens_next, on_err}
use Rattle.strat_promote.proofs.inputs.open_levels.Goals as goal

pub open_level-requires : goal.open_level-requires
open_level-requires g c = record { fits = part_readable _ _ _ (level_part c.args.levels.now c.loop-done.done c.args.target (omega arith)) c.args.horizon c.requires.fits.0 }

pub returns-in_err-open_level-clause-same : goal.returns-in_err-open_level-clause-same
returns-in_err-open_level-clause-same g c = reads_trans c.loop-done.invariant.1 c.open_level.ensures.same

pub returns-in_err-open_level-clause-damaged : goal.returns-in_err-open_level-clause-damaged
returns-in_err-open_level-clause-damaged g c = λ b torn.
    part_blamed _ _ _ (level_part c.args.levels.now c.loop-done.done c.args.target (omega arith)) (g.D.Disk.view c.args.disk.now) (g.D.Disk.view c.loop-done.disk) b c.loop-done.invariant.1
    (c.in_err-open_level.ensures.damaged b (err_of c.from_residual.result _ _ c.from_residual.ensures.1 torn))

pub returns-in_err-open_level-clause-err : goal.returns-in_err-open_level-clause-err
returns-in_err-open_level-clause-err g c =
    on_err c.from_residual.result _
    (part_reads _ _ _ (level_part c.args.levels.now c.loop-done.done c.args.target (omega arith)) c.args.horizon (g.D.Disk.view c.args.disk.now) _ _ _ _ _
    c.loop-done.invariant.0 c.in_err-open_level.ensures.err)

pub loop-done-preserved : goal.loop-done-preserved
loop-done-preserved g c = (
  opens_next c.args.horizon (g.D.Disk.view c.args.disk.now) (g.D.Disk.view c.loop-done.disk) (arrays_to c.args.levels.now c.loop-done.done) (arrays_if_any (level_numbered c.args.levels.now (c.loop-done.done + 1))) _ _ _ _ _ _ _
      (level_next c.args.levels.now c.loop-done.done) c.loop-done.invariant.0 c.loop-done.invariant.1 c.in_ok-open_level.ensures.ok,
  reads_trans c.loop-done.invariant.1 c.open_level.ensures.same,
  c.in_ok-open_level.ensures.cause.ok ∙ c.loop-done.invariant.2,
)
