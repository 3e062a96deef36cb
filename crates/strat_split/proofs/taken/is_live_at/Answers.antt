use Rattle.std.proofs.Common.{sym, ◌∙◌, arith}
use Rattle.strat_live.specs.Group.{is_live_item}
use Rattle.strat_split.proofs.TakenLemmas.{live_found, none_live, live_past}
use Rattle.strat_split.proofs.taken.is_live_at.Goals as goal

pub returns-then-v-count : goal.returns-then-v-count
returns-then-v-count c = record { ok = λ d. live_past c.args.tree.now.parents c.count.ensures.kept c.args.group.now c.args.v c.args.i d c.requires.found c.requires.fits (omega arith) }

pub returns-in-Some : goal.returns-in-Some
returns-in-Some c = record { ok = λ d. live_found c.args.tree.now.parents c.args.group.now c.requires.kept c.args.v c.args.i c.in-Some.at d c.requires.fits (sym c.in-Some.ensures.ok) }

pub returns-in-None : goal.returns-in-None
returns-in-None c = record { ok = λ d. none_live (is_live_item c.args.tree.now.parents c.args.group.now c.args.v) c.args.group.now c.args.i d c.requires.fits (sym c.live_in.ensures.ok ∙ c.in-None.is) }
