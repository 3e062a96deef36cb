use Rattle.def_publish.proofs.FreeLemmas.{shows_contents}
use Rattle.def_publish.proofs.PartsLemmas.{reads_head, reads_state, state_parts}
use Rattle.def_publish.proofs.reading.recovery_finds_contents.Goals as goal

pub returns : goal.returns
returns c = record {
  head = reads_head;
  state = reads_state;
  contents = λ c s e. let found = state_parts c s e in (found.contents, found.reads, found.state);
  table = shows_contents;
}
