use Rattle.std.proofs.Common.{map}
use Rattle.strat_base.specs.EntryView.{entry_of}
use Rattle.strat_merge_tests.proofs.ListLemmas.{list_advances, list_reads}
use Rattle.strat_merge_tests.proofs.list_run.ListRunRun.advance.Goals as goal

pub returns-in-Ok-clause-reads : goal.returns-in-Ok-clause-reads
returns-in-Ok-clause-reads g c = list_reads c.args.self.now.block c.args.self.now.at _ _ (map entry_of c.args.self.now.entries.items) c.requires c.read_block.ensures.reads.later c.read_block.ensures.reads.bound

pub returns-in-Ok-2-clause-ok : goal.returns-in-Ok-2-clause-ok
returns-in-Ok-2-clause-ok g c = list_advances _ c.args.self.now.versions c.args.self.now.block c.args.self.now.good c.args.self.now.at (map entry_of c.args.self.now.entries.items) c.args.self.now.kept

pub returns-in-Ok-2-clause-reads : goal.returns-in-Ok-2-clause-reads
returns-in-Ok-2-clause-reads g c = list_reads c.args.self.now.block c.args.self.now.at _ _ (map entry_of c.args.self.now.entries.items) c.requires c.read_block.ensures.reads.later c.read_block.ensures.reads.bound

pub returns-in-Err-clause-reads : goal.returns-in-Err-clause-reads
returns-in-Err-clause-reads g c = list_reads c.args.self.now.block c.args.self.now.at _ _ (map entry_of c.args.self.now.entries.items) c.requires c.read_block.ensures.reads.later c.read_block.ensures.reads.bound
