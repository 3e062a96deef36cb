use Rattle.std.proofs.Common.{ap, ◌∙◌}
use Rattle.strat_arena.specs.Items.{entries_of}
use Rattle.std.specs.List.{list_all}
use Rattle.strat_live.specs.Group.{is_descending}
use Rattle.strat_merge.proofs.KeepingLemmas.{kept_purged, kept_all, kept_descend}
use Rattle.strat_merge.proofs.purging.purge.Goals as goal

pub returns-clause-found : goal.returns-clause-found
returns-clause-found c pairs key keyed = ap (λ its. entries_of pairs its) c.keep.ensures.ok ∙ kept_purged c.args.tree.now.parents pairs c.args.group.now key c.count.ensures.kept c.requires.kept keyed

pub returns-clause-kept : goal.returns-clause-kept
returns-clause-kept c = ap is_descending c.keep.ensures.ok ∙ kept_descend c.args.tree.now.parents c.args.group.now c.requires.kept

pub returns-clause-same : goal.returns-clause-same
returns-clause-same c p all = ap (λ its. list_all p its) c.keep.ensures.ok ∙ kept_all c.args.tree.now.parents p c.args.group.now all
