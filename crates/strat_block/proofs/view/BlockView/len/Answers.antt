use Rattle.std.proofs.Common.{arith}
use Rattle.strat_block.proofs.BlockFacts.{held_stands, fits_there}
use Rattle.strat_block.specs.Places.{entries_of_block}
use Rattle.strat_block.proofs.WriterLemmas.{entries_long}
use Rattle.strat_block.proofs.view.BlockView.len.Goals as goal

pub returns-clause-len : goal.returns-clause-len
returns-clause-len c = let s = (held_stands c.self.inside.bytes.now c.self.invariant).some in omega arith

pub returns-clause-fits : goal.returns-clause-fits
returns-clause-fits c =
    let s = held_stands c.self.inside.bytes.now c.self.invariant in
    let long = entries_long (entries_of_block c.self.inside.bytes.now) s.lawful in
    let room = s.room in
    omega arith

pub returns-clause-kept : goal.returns-clause-kept
returns-clause-kept c = rw (← c.self.view_is) (fits_there c.self.inside.bytes.now c.self.invariant)
