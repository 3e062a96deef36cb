use Rattle.strat_base.specs.EntryView.{entry_of}
use Rattle.std.proofs.Common.{map}
use Rattle.strat_merge_tests.specs.ListRuns.{IsBehind}
use Rattle.strat_merge_tests.proofs.ListLemmas.{list_pushed}
use Rattle.strat_merge_tests.proofs.list_run.push_lawful.Goals as goal

pub returns : goal.returns
returns c = record {
  kept = λ kept.
      let behind : IsBehind (map entry_of c.args.entries.now.items) (entry_of c.args.entry) = rw c.deref.ensures.value at (c.is_behind.ensures.ok c.if-not-is_behind.false) in
      rw c.in_ok-push.ensures.items (list_pushed c.args.versions c.args.entries.now.items c.args.entry (c.is_lawful.ensures.fits c.if-not-is_lawful.false)
      (c.is_lawful.ensures.room c.if-not-is_lawful.false) behind kept);
}
