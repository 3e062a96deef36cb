use Rattle.std.proofs.Common.{◌∙◌, refl, arith, map, ap}
use Rattle.std.proofs.lemmas.List.{map-append}
use Rattle.strat_base.proofs.ResultFacts.{err_of}
use Rattle.strat_promote.specs.InputFields.{input_seen}
use Rattle.strat_promote.specs.LeadFields.{lead_run_seen}
use Rattle.strat_promote.proofs.OpeningLemmas.{opens_one, one_blamed}
use Rattle.strat_promote.proofs.inputs.open_array.Goals as goal

pub open-requires-clause-fits : goal.open-requires-clause-fits
open-requires-clause-fits g c = c.requires.fits.within _ (0, omega arith, refl)

pub returns-in_err-run-clause-damaged : goal.returns-in_err-run-clause-damaged
returns-in_err-run-clause-damaged g c = λ b torn.
    one_blamed (g.D.Disk.view c.args.disk.now) _ b (c.in_err-run.ensures.damaged b (err_of c.from_residual.result _ _ c.from_residual.ensures.1 torn))

pub returns-clause-ok : goal.returns-clause-ok
returns-clause-ok g c =
    let run = c.in_ok-run.ensures in
    opens_one c.args.horizon _ _ _ _ (lead_run_seen c.in_ok-run.run') _ _
    (ap (λ runs. map input_seen runs) c.in_ok-push.ensures.items ∙ map-append input_seen c.args.runs.now.items _)
    run.ok run.found run.kept run.reads
