use Rattle.std.proofs.Common.{subst}
use Rattle.strat_io.specs.Streams.{Appends}
use Rattle.strat_report.specs.Reporting.{levels_text}
use Rattle.strat_report.proofs.ReportingLemmas.{wrote_all}
use Rattle.strat_report.proofs.reporting.write_levels.Goals as goal

pub returns-in-Ok-put_all-clause-ok : goal.returns-in-Ok-put_all-clause-ok
returns-in-Ok-put_all-clause-ok g c =
    wrote_all levels_text _ _ c.in-Ok.said.1 _ _ c.in-Ok.ensures.ok (subst (Appends _ _) c.as_bytes.ensures.value c.in-Ok-put_all.ensures.ok)
