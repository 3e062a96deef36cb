use Rattle.std.proofs.Common.{arith, ap, eqb, ◌∙◌}
use Rattle.strat_tree.proofs.AncestorLemmas.{seen_as, ancestor_by_below}
use Rattle.strat_tree.proofs.tree.Tree.is_ancestor.Goals as goal

pub overflow_add-u : goal.overflow_add-u
overflow_add-u c =
    let seen = seen_as c.self.inside c.args.self.now c.self.view_is c.self.invariant in
    omega (arith, seen.few)

pub returns : goal.returns
returns c =
    let seen = seen_as c.self.inside c.args.self.now c.self.view_is c.self.invariant in
    record { ok = ap (λ w. eqb w c.args.u) c.below.ensures.ok ∙ ancestor_by_below c.args.self.now.parents seen.tree c.args.u c.args.v c.requires.1 }
