use Rattle.std.proofs.Common.{◌-◌, sym}
use Rattle.strat_cursor.proofs.PickLemmas.{array_of_view}
use Rattle.strat_cursor.proofs.picking.source_at.Goals as goal

pub returns-in-Some-array_at-clause-kept : goal.returns-in-Some-array_at-clause-kept
returns-in-Some-array_at-clause-kept c = array_of_view c.args.view.now c.args.v (c.args.i - 2) c.in-Some-array_at.desc c.requires.kept (sym c.in-Some-array_at.ensures.ok)
