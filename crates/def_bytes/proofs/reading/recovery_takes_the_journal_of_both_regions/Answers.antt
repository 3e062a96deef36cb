use Rattle.def_bytes.proofs.TwoRegionsLemmas.{two_whole, whole_two, journal_none}
use Rattle.def_bytes.proofs.reading.recovery_takes_the_journal_of_both_regions.Goals as goal

pub returns : goal.returns
returns c = record {
  whole = λ d mem active logged some. two_whole d mem active some logged;
  taken = λ d mem active logged some. whole_two d mem active some logged;
  none = journal_none;
}
