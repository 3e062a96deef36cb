use Rattle.std.proofs.Common.{ap, ◌∙◌, arith}
use Rattle.def_bulk.specs.Exporting.{puts_of}
use Rattle.def_follow.specs.Log.{table_after}
use Rattle.strat_model.specs.Table.{Table}
use Rattle.strat_bulk.proofs.RunLemmas.{is_run, served}
use Rattle.strat_bulk.proofs.laws.an_export_is_served_again.Goals as goal

pub returns-clause-end : goal.returns-clause-end
returns-clause-end c = λ mem changes versions m xs start after is lawful fits few from bodies run.
    served c.bodies_have_one_command.ensures.ok mem 1 m xs start after lawful (omega (arith, fits, few)) bodies run
    ∙ ap (λ (t : Table). table_after t (puts_of m)) from ∙ (c.an_export_gives_its_map.ensures.ok changes versions m is fits).1

pub returns-clause-kept : goal.returns-clause-kept
returns-clause-kept c = λ mem xs start after run. is_run mem xs start after run
