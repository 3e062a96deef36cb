use Rattle.std.proofs.Common.{List, ℕ, ◌++◌, take, sym, ap, ◌∙◌, arith}
use Rattle.std.specs.Option.{option_to_list}
use Rattle.def_recovery.specs.Head.{parent_numbers}
use Rattle.strat_publish.proofs.ComputingLemmas.{parent_next}
use Rattle.strat_publish.proofs.next_manifest.parents_of.Goals as goal

pub loop-v-preserved : goal.loop-v-preserved
loop-v-preserved c = (
  c.in_ok-add_parent.ensures.ok ∙ ap (λ (ns : List ℕ). ns ++ option_to_list c.parent.result) c.loop-v.invariant.0
      ∙ ap (λ p. parent_numbers (take c.loop-v.v c.args.tree.now.parents) ++ option_to_list p) c.parent.ensures.ok
      ∙ sym (parent_next c.args.tree.now.parents c.loop-v.v (omega (arith, c.loop-v-test.true, c.requires.len))),
  omega (arith, c.loop-v-test.true),
)

pub returns : goal.returns
returns c = record {
  ok = c.loop-v.invariant.0 ∙ ap (λ (n : ℕ). parent_numbers (take n c.args.tree.now.parents)) (omega (arith, c.loop-v-test.false, c.loop-v.invariant.1));
}
