use Rattle.strat_merge_tests.proofs.ListLemmas.{first_at}
use Rattle.strat_merge_tests.proofs.list_run.first_left.Goals as goal

pub returns-then-at-entries : goal.returns-then-at-entries
returns-then-at-entries c = record { ok = first_at c.args.entries.now c.args.at _ c.if-at-entries.true }
