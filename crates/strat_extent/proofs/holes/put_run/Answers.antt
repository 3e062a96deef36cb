use Rattle.std.proofs.Common.{◌+◌, arith}
use Rattle.strat_extent.proofs.RunLemmas.{gap_insert, gap_weaker}
use Rattle.strat_extent.proofs.holes.put_run.Goals as goal

pub returns-in_default-clause-ok : goal.returns-in_default-clause-ok
returns-in_default-clause-ok c low from high p q o g =
    rw c.in_default.ensures.items (gap_insert low from high _ _ c.args.run (omega arith) (omega arith) o q g)

pub returns-else-run-gt0-clause-ok : goal.returns-else-run-gt0-clause-ok
returns-else-run-gt0-clause-ok c low from high p q o g =
    gap_weaker low low from from (c.args.run.start + c.args.run.len + 1) c.args.run.start high high _ _ (omega arith) (omega arith) (omega arith) (omega arith) g
