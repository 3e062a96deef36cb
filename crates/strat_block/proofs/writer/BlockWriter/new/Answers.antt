use Rattle.strat_block.proofs.WriterLemmas.{nothing, nothing_is}
use Rattle.strat_block.proofs.writer.BlockWriter.new.Goals as goal

pub invariant_of-result : goal.invariant_of-result
invariant_of-result c = nothing _ _

pub returns : goal.returns
returns c = record { ok = nothing_is _ }
