use Rattle.std.proofs.Common.{◌≡◌, ◌<◌, ◌-◌, ℕ, eqb, length, suc, true, false, sym, ap, subst, ◌∙◌, arith}
use Rattle.std.proofs.lemmas.Bool.{eq-eqb, ne_eqb}
use Rattle.std.proofs.lemmas.List.{length-map}
use Rattle.strat_base.specs.Marks.{Marks, ArePruned, has_living_child, is_dropped}
use Rattle.strat_base.specs.Tree.{Parents, IsTree}
use Rattle.strat_manifest.specs.ManifestView.{is_set, marks_listed}
use Rattle.strat_memory.proofs.PruneLemmas.{IsPrunedFrom, listed_at, pruned_childless, pruned_first, pruned_kept, pruned_last, pruned_listed, pruned_more}
use Rattle.strat_tree.specs.TreeView.{TreeView}
use Rattle.strat_memory.proofs.memory.prune.Goals as goal

pub mark_dead-requires-clause-none : goal.mark_dead-requires-clause-none
mark_dead-requires-clause-none c =
    let v : ℕ = c.loop-v.v - 1 in
    let marks : Marks = marks_listed c.args.marks.now in
    let up : c.loop-v.v ≡ suc v = omega (arith, c.loop-v-test.true) in
    let lt : v < length c.args.marks.now = omega (arith, c.loop-v-test.true, c.loop-v.invariant.2) in
    let so : IsPrunedFrom marks c.loop-v.tree.marks (suc v) = subst (IsPrunedFrom marks c.loop-v.tree.marks) up c.loop-v.invariant.3 in
    let dropped : is_dropped marks v ≡ true = listed_at c.args.marks.now v 0 lt ∙ eq-eqb _ 1 c.if-marks-v-eq1.true in
    subst (λ (ps : Parents). has_living_child ps c.loop-v.tree.marks v ≡ false) (sym c.loop-v.invariant.0)
    (pruned_childless c.args.tree.now.parents marks c.loop-v.tree.marks v c.count-v.ensures.kept (pruned_listed c.args.tree.now.parents marks c.requires.fits) so dropped)

pub loop-v-preserved : goal.loop-v-preserved
loop-v-preserved c =
    let v : ℕ = c.loop-v.v - 1 in
    let marks : Marks = marks_listed c.args.marks.now in
    let up : c.loop-v.v ≡ suc v = omega (arith, c.loop-v-test.true) in
    let lt : v < length c.args.marks.now = omega (arith, c.loop-v-test.true, c.loop-v.invariant.2) in
    let so : IsPrunedFrom marks c.loop-v.tree.marks (suc v) = subst (IsPrunedFrom marks c.loop-v.tree.marks) up c.loop-v.invariant.3 in (
      c.loop-v.invariant.0,
      c.loop-v.invariant.1,
      omega (arith, lt),
      pruned_kept marks c.loop-v.tree.marks v so (listed_at c.args.marks.now v 0 lt ∙ ne_eqb _ 1 c.if-marks-v-eq1.false),
    )

pub returns : goal.returns
returns c =
    let marks : Marks = marks_listed c.args.marks.now in
    let last = pruned_last marks c.loop-v.tree.marks c.loop-v.v (pruned_listed c.args.tree.now.parents marks c.requires.fits).root c.loop-v-test.false c.loop-v.invariant.3 in
    record {
      ok = λ i. record { parents = c.loop-v.invariant.0 i; marks = last i; versions_max = c.loop-v.invariant.1 i };
    }
