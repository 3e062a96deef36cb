use Rattle.def_texts.proofs.ReportLemmas.{report_said, summary_said}
use Rattle.def_texts.proofs.reports.texts_speak_of_states.Goals as goal

pub returns : goal.returns
returns c = record { report = report_said; summary = summary_said }
