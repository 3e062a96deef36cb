use Rattle.strat_cursor.proofs.PickLemmas.{pinned_few}
use Rattle.strat_cursor.proofs.picking.array_at.Goals as goal

pub returns-in-Pinned-clause-kept : goal.returns-in-Pinned-clause-kept
returns-in-Pinned-clause-kept c = pinned_few c.args.view.now.tree.now.parents c.args.view.now.levels c.args.v c.in-Pinned.arrays c.in-Pinned.is (c.requires.kept.few c.args.v)
