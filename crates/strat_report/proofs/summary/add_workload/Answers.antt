use Rattle.std.proofs.lemmas.Result.{on_ok_weaker}
use Rattle.strat_report.proofs.LineLemmas.{workload_added}
use Rattle.strat_report.proofs.summary.add_workload.Goals as goal

pub returns : goal.returns
returns c = record { ok = on_ok_weaker c.write.result (workload_added c.args.seed c.args.count _ _) c.write.ensures.bytes }
