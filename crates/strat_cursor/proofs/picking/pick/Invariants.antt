use Rattle.strat_cursor.proofs.ThereLemmas.{Packs}
use Rattle.strat_cursor.proofs.picking.pick.Given as goal

abbrev pub invariant-loop-i : goal.invariant-loop-i
invariant-loop-i l = Packs l.view l.v l.i l.count l.places
