use Rattle.std.proofs.Common.{subst}
use Rattle.strat_journal.specs.Laid.{Laid}
use Rattle.strat_journal.specs.Records.{logged_from}
use Rattle.strat_journal.proofs.RecordLemmas.{laid_read, read_laid}
use Rattle.strat_journal.proofs.LaidLemmas.{changes-logged_from}
use Rattle.strat_journal.proofs.laws.records_are_read_as_written.Goals as goal

pub returns : goal.returns
returns c = record {
  read = laid_read;
  written = λ c end n at list holds within e.
      subst (Laid c end n at) (changes-logged_from at list) (read_laid c end n at (logged_from at list) holds within e).0;
}
