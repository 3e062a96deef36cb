use Rattle.std.proofs.Common.{◌<◌, length, eqb, not, ap, sym, ◌∙◌, arith}
use Rattle.std.proofs.lemmas.List.{get_or_read}
use Rattle.strat_tree.specs.TreeView.{TreeView}
use Rattle.strat_base.specs.Marks.{has_living_child}
use Rattle.strat_tree.proofs.LivingLemmas.{living_is}
use Rattle.strat_tree.proofs.tree.Tree.has_living_child.Goals as goal

pub returns : goal.returns
returns c =
    let kept = c.self.invariant in
    let a = c.self.inside in
    let known : c.args.v < length a.parents.items = rw (← c.self.view_is) at c.requires in
    let read = get_or_read a.living.items c.args.v c.index.result.now (omega (arith, kept.counted.len)) c.index.ensures 0 in
    record {
      ok = ap (λ n. not (eqb n 0)) (read ∙ kept.counted.each c.args.v known) ∙ sym (living_is a.parents.items a.dropped.items c.args.v)
          ∙ ap (λ (t : TreeView). has_living_child t.parents t.marks c.args.v) c.self.view_is;
    }
