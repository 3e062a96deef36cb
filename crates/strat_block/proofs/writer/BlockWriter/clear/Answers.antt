use Rattle.strat_block.proofs.WriterLemmas.{nothing, nothing_is}
use Rattle.strat_block.proofs.writer.BlockWriter.clear.Goals as goal

pub invariant_of-self : goal.invariant_of-self
invariant_of-self c = nothing _ _

pub returns : goal.returns
returns c = record { ok = nothing_is _ }
