use Rattle.strat_level.proofs.TargetLemmas.{searched_more}
use Rattle.strat_level.proofs.depth.target.Goals as goal

pub loop-room-preserved : goal.loop-room-preserved
loop-room-preserved c =
    searched_more c.args.leads.now c.args.mem c.loop-room.j c.loop-room.total c.loop-room.room 0 c.requires.len c.requires.fits c.requires.room.0 c.loop-room.invariant c.loop-room-test.true
