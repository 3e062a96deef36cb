use Rattle.std.proofs.Common.{[], ◌∷◌, ◌∙◌, take, arith}
use Rattle.strat_base.proofs.ResultFacts.{err_of}
use Rattle.def_crash.proofs.MomentLemmas.{reads_trans}
use Rattle.strat_promote.proofs.OpeningLemmas.{array_part, array_next, part_readable, part_blamed, part_reads, opens_next, on_err}
use Rattle.strat_promote.proofs.inputs.open_arrays.Goals as goal

pub open_array-requires : goal.open_array-requires
open_array-requires g c =
    record { fits = part_readable _ _ _ (array_part c.args.arrays.now c.loop-i.i c.index-arrays-i.result (omega arith) c.index-arrays-i.is) c.args.horizon c.requires.fits }

pub returns-in_err-open_array-clause-same : goal.returns-in_err-open_array-clause-same
returns-in_err-open_array-clause-same g c = reads_trans c.loop-i.invariant.1 c.open_array.ensures.same

pub returns-in_err-open_array-clause-damaged : goal.returns-in_err-open_array-clause-damaged
returns-in_err-open_array-clause-damaged g c = λ b torn.
    part_blamed _ _ _ (array_part c.args.arrays.now c.loop-i.i c.index-arrays-i.result (omega arith) c.index-arrays-i.is) (g.D.Disk.view c.args.disk.now) (g.D.Disk.view c.loop-i.disk) b c.loop-i.invariant.1
    (c.in_err-open_array.ensures.damaged b (err_of c.from_residual.result _ _ c.from_residual.ensures.1 torn))

pub returns-in_err-open_array-clause-err : goal.returns-in_err-open_array-clause-err
returns-in_err-open_array-clause-err g c =
    on_err c.from_residual.result _
    (part_reads _ _ _ (array_part c.args.arrays.now c.loop-i.i c.index-arrays-i.result (omega arith) c.index-arrays-i.is) c.args.horizon (g.D.Disk.view c.args.disk.now) _ _ _ _ _
    c.loop-i.invariant.0 c.in_err-open_array.ensures.err)

pub loop-i-preserved : goal.loop-i-preserved
loop-i-preserved g c = (
  opens_next c.args.horizon (g.D.Disk.view c.args.disk.now) (g.D.Disk.view c.loop-i.disk) (take c.loop-i.i c.args.arrays.now) (c.index-arrays-i.result ∷ []) _ _ _ _ _ _ _
      (array_next c.args.arrays.now c.loop-i.i c.index-arrays-i.result (omega arith) c.index-arrays-i.is) c.loop-i.invariant.0 c.loop-i.invariant.1 c.in_ok-open_array.ensures.ok,
  reads_trans c.loop-i.invariant.1 c.open_array.ensures.same,
  c.in_ok-open_array.ensures.cause.ok ∙ c.loop-i.invariant.2,
)
