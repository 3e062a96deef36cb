use Rattle.strat_block.proofs.BlockFacts.{held_stands}
use Rattle.strat_block.proofs.view.BlockView.bytes.Goals as goal

pub returns-clause-len : goal.returns-clause-len
returns-clause-len c = (held_stands c.self.inside.bytes.now c.self.invariant).len
