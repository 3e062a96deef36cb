use Rattle.std.proofs.Common.{sym, ◌∙◌, arith}
use Rattle.strat_live.specs.Group.{is_live_item}
use Rattle.strat_split.proofs.WorkLemmas.{find_at, find_nowhere, find_past}
use Rattle.strat_split.proofs.shares.live_at.Goals as goal

pub returns-then-v-count : goal.returns-then-v-count
returns-then-v-count c = record { ok = sym (find_past c.args.tree.now.parents c.count.ensures.kept c.args.items.now c.args.v c.requires.found (omega arith)) }

pub returns-in-Some : goal.returns-in-Some
returns-in-Some c = record { ok = sym (find_at (is_live_item c.args.tree.now.parents c.args.items.now c.args.v) c.args.items.now c.in-Some.i _ (sym c.in-Some.ensures.ok)) }

pub returns-in-None : goal.returns-in-None
returns-in-None c = record { ok = sym (find_nowhere (is_live_item c.args.tree.now.parents c.args.items.now c.args.v) c.args.items.now (sym c.live_in.ensures.ok ∙ c.in-None.is)) }
