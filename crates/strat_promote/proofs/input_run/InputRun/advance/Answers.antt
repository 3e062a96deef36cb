use Rattle.std.proofs.Common.{sym, subst}
use Rattle.strat_merge.specs.Runs.{Advances}
use Rattle.strat_promote.specs.InputFields.{input_seen}
use Rattle.strat_promote.specs.ZeroFields.{zero_run_seen}
use Rattle.strat_promote.specs.declared.input.Input.{Input}
use Rattle.strat_promote.proofs.input_run.InputRun.advance.Goals as goal

pub returns-in-Zero-clause-ok : goal.returns-in-Zero-clause-ok
returns-in-Zero-clause-ok g c =
    subst (λ (r : Input). Advances (g.D.Disk.view c.args.disk.now) (input_seen r) (zero_run_seen c.advance.new.self)) (sym c.in-Zero.is)
    (record { rest = λ f exposed. c.advance.ensures.ok f; later = c.advance.ensures.kept; bound = c.advance.ensures.found })
