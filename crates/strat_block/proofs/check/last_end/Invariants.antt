use Rattle.std.proofs.Common.{◌≡◌, ◌≤◌, ◌-◌, None, length, option_map}
use Rattle.strat_base.specs.EntryView.{entry_of}
use Rattle.strat_block.specs.Links.{chain_end}
use Rattle.strat_block.proofs.check.last_end.Given as goal

abbrev pub invariant-loop-i : goal.invariant-loop-i
invariant-loop-i l = record {
  chain : chain_end l.bytes (l.n - l.i) l.i l.at (option_map entry_of l.before) ≡ chain_end l.bytes l.n 0 l.fn.at None;
  within : l.at ≤ length l.bytes;
}
