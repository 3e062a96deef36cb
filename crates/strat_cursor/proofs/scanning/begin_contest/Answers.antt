use Rattle.strat_cursor.proofs.TournamentLemmas.{contenders_bracket}
use Rattle.strat_cursor.proofs.EmitLemmas.{at_hand}
use Rattle.strat_cursor.proofs.scanning.begin_contest.Goals as goal

pub play_all-requires-clause-kept : goal.play_all-requires-clause-kept
play_all-requires-clause-kept g c = at_hand _ _ _ _ _ c.in_ok-begin_all.ensures.kept

pub play_all-requires-clause-found : goal.play_all-requires-clause-found
play_all-requires-clause-found g c =
    contenders_bracket _ _ _ c.seat.new.winners c.in_ok-begin_all.ensures.kept.same c.seat.ensures.ok
