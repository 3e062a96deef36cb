use Rattle.std.proofs.Common.{◌≡◌, map, drop}
use Rattle.std.specs.List.{slice_get}
use Rattle.std.specs.Option.{option_map}
use Rattle.strat_base.specs.EntryView.{entry_of}
use Rattle.strat_merge_tests.proofs.ListLemmas.{first_fits, first_below}
use Rattle.strat_merge_tests.proofs.list_run.ListRunRun.peek.Goals as goal

pub returns-clause-fits : goal.returns-clause-fits
returns-clause-fits g c =
    let first : option_map entry_of c.first_left.result ≡ slice_get (drop c.args.self.now.at (map entry_of c.args.self.now.entries.items)) 0 = rw c.deref.ensures.value at c.first_left.ensures.ok in
    first_fits c.args.self.now.versions c.args.self.now.at (map entry_of c.args.self.now.entries.items) c.args.self.now.kept c.first_left.result first

pub returns-clause-room : goal.returns-clause-room
returns-clause-room g c =
    let first : option_map entry_of c.first_left.result ≡ slice_get (drop c.args.self.now.at (map entry_of c.args.self.now.entries.items)) 0 = rw c.deref.ensures.value at c.first_left.ensures.ok in
    first_below c.args.self.now.versions c.args.self.now.at (map entry_of c.args.self.now.entries.items) c.args.self.now.kept c.first_left.result first
