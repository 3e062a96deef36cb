-- Steps were taken, and there is more to do.
use Rattle.std.proofs.Common.{◌+◌}
use Rattle.strat_promote.specs.Stages.{stage_consumed}
use Rattle.strat_promote.specs.Steps.{inputs_of}
use Rattle.strat_promote.proofs.SliceLemmas.{IsSlicing}
use Rattle.strat_promote.proofs.slicing.take_steps.Given as goal

abbrev pub invariant-loop : goal.invariant-loop
invariant-loop g l =
    IsSlicing l.task (inputs_of l.sources) (stage_consumed l.fn.stage + l.budget) l.counter (g.D.Disk.view l.fn.disk) (g.D.Disk.view l.disk) l.fn.space l.space l.fn.stage l.stage
    (g.D.Disk.faults l.fn.disk) (g.D.Disk.faults l.disk) (g.D.Disk.reads l.fn.disk) (g.D.Disk.reads l.disk)
