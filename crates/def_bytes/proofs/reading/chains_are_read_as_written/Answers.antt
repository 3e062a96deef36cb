use Rattle.def_bytes.proofs.ChainLemmas.{chain_read}
use Rattle.def_bytes.proofs.reading.chains_are_read_as_written.Goals as goal

pub returns : goal.returns
returns c = chain_read
