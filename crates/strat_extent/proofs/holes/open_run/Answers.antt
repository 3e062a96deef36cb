use Rattle.std.proofs.Common.{◌+◌, arith}
use Rattle.strat_extent.specs.Gap.{IsGap}
use Rattle.strat_extent.proofs.RunLemmas.{runs_ended, runs_joined}
use Rattle.strat_extent.proofs.holes.open_run.Goals as goal

pub returns-then-run-end-clause-ok : goal.returns-then-run-end-clause-ok
returns-then-run-end-clause-ok c low le g =
    (runs_ended low c.args.run.start (c.args.run.start + c.args.run.len + 1) c.args.end c.args.holes.now.items c.args.at (omega arith) g.before g.after, le)

pub returns-clause-ok : goal.returns-clause-ok
returns-clause-ok c low le g =
    let gap : IsGap low c.put_run.new.holes.items c.args.at c.args.run.start c.args.run.start c.args.end
    = c.put_run.ensures.ok low c.args.run.start c.args.end le (omega arith) (omega arith) g in (
      runs_joined low c.args.run.start c.args.run.start c.args.end c.put_run.new.holes.items c.args.at le (omega arith) (omega arith) gap.before gap.after,
      omega arith,
    )
