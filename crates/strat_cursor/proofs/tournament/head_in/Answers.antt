use Rattle.std.proofs.Common.{arith}
use Rattle.strat_cursor.proofs.TournamentLemmas.{get_here}
use Rattle.strat_cursor.proofs.tournament.head_in.Goals as goal

pub head-requires-clause-kept : goal.head-requires-clause-kept
head-requires-clause-kept c =
    (c.requires.kept.each c.args.i c.index-sources-i.result c.index-positions-i.result (get_here c.args.query.now.sources.now c.args.i c.index-sources-i.result c.requires.fits c.index-sources-i.is)
    (get_here c.args.positions.now c.args.i c.index-positions-i.result (omega (arith, c.requires.fits, c.requires.kept.same)) c.index-positions-i.is)).0

pub head-requires-clause-found : goal.head-requires-clause-found
head-requires-clause-found c =
    (c.requires.kept.each c.args.i c.index-sources-i.result c.index-positions-i.result (get_here c.args.query.now.sources.now c.args.i c.index-sources-i.result c.requires.fits c.index-sources-i.is)
    (get_here c.args.positions.now c.args.i c.index-positions-i.result (omega (arith, c.requires.fits, c.requires.kept.same)) c.index-positions-i.is)).1
