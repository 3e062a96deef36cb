use Rattle.def_publish.proofs.JournalLemmas.{change_short, region_local, journal_local, journal_kept}
use Rattle.def_publish.proofs.reading.journals_are_read_from_their_region.Goals as goal

pub returns : goal.returns
returns c = record { change = change_short; region = region_local; same = journal_local; room = journal_kept }
