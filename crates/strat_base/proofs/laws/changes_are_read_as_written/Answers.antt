use Rattle.strat_base.proofs.ChangeLemmas.{change_in-bytes, change_in-some, length-change_bytes}
use Rattle.strat_base.proofs.laws.changes_are_read_as_written.Goals as goal

pub returns : goal.returns
returns c = record {
  read = change_in-bytes;
  written = change_in-some;
  size = length-change_bytes;
}
