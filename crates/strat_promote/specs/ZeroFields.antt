-- What a merge sees of a copy of level 0.
use Rattle.std.specs.Prelude.{[], None, List, drop, slice_get}
use Rattle.strat_arena.specs.Items.{entries_of}
use Rattle.strat_base.specs.Entries.{Entry}
use Rattle.strat_merge.specs.Runs.{RunView}
use Rattle.strat_promote.specs.declared.zero_copy.ZeroRun.{ZeroRun}

-- the entries that were copied
abbrev pub copied : ZeroRun → List Entry
copied r = entries_of r.arena.pairs r.items

-- what is left of them, none of it in a block
abbrev pub zero_run_seen : ZeroRun → RunView
zero_run_seen r = record {
  blocks = [];
  versions = r.horizon;
  first = slice_get (copied r) r.next;
  left = λ c. drop r.next (copied r);
  misfit = λ c. None;
}
