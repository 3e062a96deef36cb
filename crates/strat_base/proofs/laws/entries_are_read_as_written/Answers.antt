use Rattle.std.proofs.Common.{[]}
use Rattle.strat_base.proofs.EntryBytesLemmas.{entry_in-bytes, entry_in-some, length-entry_bytes}
use Rattle.strat_base.proofs.laws.entries_are_read_as_written.Goals as goal

pub returns : goal.returns
returns c = record {
  read = entry_in-bytes;
  written = entry_in-some;
  size = λ e lawful. length-entry_bytes e [] lawful;
}
