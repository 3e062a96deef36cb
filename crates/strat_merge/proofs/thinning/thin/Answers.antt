use Rattle.std.proofs.Common.{ap, ◌∙◌}
use Rattle.strat_arena.specs.Items.{entries_of}
use Rattle.std.specs.List.{list_all}
use Rattle.strat_live.specs.Group.{is_descending}
use Rattle.strat_merge.proofs.ThinningLemmas.{told_thinned, told_all, told_descend}
use Rattle.strat_merge.proofs.thinning.thin.Goals as goal

pub returns-clause-found : goal.returns-clause-found
returns-clause-found c key keyed =
    ap (λ its. entries_of c.args.arena.now.pairs its) c.keep_told.ensures.ok
    ∙ told_thinned c.args.tree.now.parents c.args.tree.now.marks c.args.arena.now.pairs c.args.group.now key c.count.ensures.kept c.requires.kept keyed

pub returns-clause-kept : goal.returns-clause-kept
returns-clause-kept c = ap is_descending c.keep_told.ensures.ok ∙ told_descend c.args.tree.now.parents c.args.tree.now.marks c.args.arena.now.pairs c.args.group.now c.requires.kept

pub returns-clause-same : goal.returns-clause-same
returns-clause-same c p all = ap (λ its. list_all p its) c.keep_told.ensures.ok ∙ told_all c.args.tree.now.parents c.args.tree.now.marks c.args.arena.now.pairs p c.args.group.now all
