use Rattle.std.proofs.Common.{Err, ap, string_bytes}
use Rattle.strat_open.specs.declared.attach_fault.AttachFault.{AttachFault}
use Rattle.strat_report.specs.Reporting.{summary_text}
use Rattle.strat_report.proofs.ReportingLemmas.{said_store, said_damage}
use Rattle.strat_report.proofs.reporting.say_summary.Goals as goal

pub returns-in-Err-Damaged-clause-ok : goal.returns-in-Err-Damaged-clause-ok
returns-in-Err-Damaged-clause-ok g c =
    said_damage (summary_text c.args.seed c.args.count) _ c.in-Err-Damaged.block (string_bytes c.new.result) (c.in-Err-Damaged.ensures.damaged c.in-Err-Damaged.block (ap (λ (e : AttachFault). Err e) c.in-Err-Damaged.field-0-is)) c.new.ensures.bytes

pub returns-clause-ok : goal.returns-clause-ok
returns-clause-ok g c = said_store (summary_text c.args.seed c.args.count) _ c.in-Ok.store (string_bytes c.in-Ok-summary_of.text) c.in-Ok.ensures.found c.in-Ok-summary_of.ensures.ok
