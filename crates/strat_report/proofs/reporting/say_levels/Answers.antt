use Rattle.std.proofs.Common.{Err, ap, string_bytes}
use Rattle.strat_open.specs.declared.attach_fault.AttachFault.{AttachFault}
use Rattle.strat_report.specs.Reporting.{levels_text}
use Rattle.strat_report.proofs.ReportingLemmas.{said_store, said_damage}
use Rattle.strat_report.proofs.reporting.say_levels.Goals as goal

pub returns-in-Err-Damaged-clause-ok : goal.returns-in-Err-Damaged-clause-ok
returns-in-Err-Damaged-clause-ok g c =
    said_damage levels_text _ c.in-Err-Damaged.block (string_bytes c.in-Ok-damage_of.line) (c.in-Err-Damaged.ensures.damaged c.in-Err-Damaged.block (ap (λ (e : AttachFault). Err e) c.in-Err-Damaged.field-0-is)) c.in-Ok-damage_of.ensures.ok

pub returns-clause-ok : goal.returns-clause-ok
returns-clause-ok g c = said_store levels_text _ c.in-Ok.store (string_bytes c.in-Ok-report_of.text) c.in-Ok.ensures.found c.in-Ok-report_of.ensures.ok
