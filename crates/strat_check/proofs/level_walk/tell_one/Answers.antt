use Rattle.std.proofs.Common.{length, sym, ap, ◌∙◌, subst}
use Rattle.strat_base.specs.Tree.{Parents}
use Rattle.strat_check.specs.ArrayCounts.{IsSightOf}
use Rattle.strat_check.proofs.WalkLemmas.{array_of, looked_ascends, one_told}
use Rattle.strat_check.proofs.level_walk.tell_one.Goals as goal

pub returns-clause-ok : goal.returns-clause-ok
returns-clause-ok g c = λ f s on a groups exposed same at looked.
    let its = array_of f c.args.desc.now a at in
    let counted = c.in_ok-count_array.ensures.ok f a.content exposed its.read (looked_ascends s on a groups c.args.scan c.args.strays c.args.leads.now looked) in
    one_told s on a groups f c.args.desc.now c.args.scan c.args.strays c.count_array.new.sights c.args.leads.now c.tell_array.result looked its
    (subst (λ (ps : Parents). IsSightOf ps a.content c.count_array.new.sights) (sym same) counted)
    (c.count_array.ensures.len ∙ c.requires.len.1 ∙ ap (λ (ps : Parents). length ps) (sym same)) c.tell_array.ensures.ok
