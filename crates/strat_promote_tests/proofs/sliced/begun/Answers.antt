use Rattle.strat_promote_tests.proofs.GoingLemmas.{begins}
use Rattle.strat_promote_tests.proofs.sliced.begun.Goals as goal

pub returns : goal.returns
returns c = record { kept = begins _ _ c.args.space.now c.args.mem c.args.horizon c.args.next_array c.requires.fits c.requires.room.2 c.in_ok-promotion.ensures.ok }
