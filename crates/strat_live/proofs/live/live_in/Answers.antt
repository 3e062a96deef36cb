use Rattle.std.proofs.Common.{◌∙◌}
use Rattle.strat_live.proofs.GroupLemmas.{live_first}
use Rattle.strat_live.proofs.live.live_in.Goals as goal

pub returns : goal.returns
returns c = record { ok = c.first_on_path.ensures.ok ∙ live_first c.args.tree.now.parents c.args.v c.args.group.now c.requires.kept }
