use Rattle.std.proofs.Common.{[]}
use Rattle.def_bytes.proofs.BlockLemmas.{block_in-some, block_in-bytes, length-block_bytes}
use Rattle.def_bytes.proofs.spellings.blocks_are_read_as_written.Goals as goal

pub returns : goal.returns
returns c = record {
  read = λ bytes entries. (block_in-some bytes entries, block_in-bytes bytes entries);
  size = λ entries fits. length-block_bytes [] entries fits;
}
