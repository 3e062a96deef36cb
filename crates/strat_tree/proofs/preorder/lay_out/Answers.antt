use Rattle.std.proofs.Common.{arith, ◌≡◌, ◌∙◌, ◌+◌, ℕ, length, length-set, refl, subst}
use Rattle.strat_base.specs.Tree.{parent_of}
use Rattle.strat_tree.specs.Intervals.{first_left}
use Rattle.strat_tree.proofs.PassLemmas.{at_each, IsLaid, laid_begins, laid_ends, lists_next, lists_fit, first_fits, passed_len}
use Rattle.strat_tree.proofs.preorder.lay_out.Goals as goal

pub loop-v-init : goal.loop-v-init
loop-v-init c =
    record {
      starts_len = c.requires.len;
      ends_len = omega arith;
      laid = laid_begins c.args.parents.now (length c.args.ends.now) (at_each c.args.ends.now) (at_each c.args.starts.now) (at_each c.args.ends.now) (λ w known. refl);
    }

pub pass_up-start-requires-clause-room : goal.pass_up-start-requires-clause-room
pass_up-start-requires-clause-room c =
    λ p of.
    let both = lists_fit c.args.parents.now c.requires.kept (length c.args.ends.now) c.requires.fits c.loop-v.v p (at_each c.args.ends.now) c.loop-v.starts c.loop-v.ends (omega arith) c.loop-v.invariant.laid (rw (← c.parent_at.ensures.ok) of) in
    omega (arith, both.1, c.requires.room)

pub pass_up-start-requires-clause-kept : goal.pass_up-start-requires-clause-kept
pass_up-start-requires-clause-kept c =
    λ p of.
    let both = lists_fit c.args.parents.now c.requires.kept (length c.args.ends.now) c.requires.fits c.loop-v.v p (at_each c.args.ends.now) c.loop-v.starts c.loop-v.ends (omega arith) c.loop-v.invariant.laid (rw (← c.parent_at.ensures.ok) of) in
    omega (arith, both.0, c.loop-v.invariant.ends_len)

pub overflow_add-ends : goal.overflow_add-ends
overflow_add-ends c =
    let at : c.pass_up-start.result ≡ first_left c.loop-v.ends (parent_of c.args.parents.now c.loop-v.v) = rw (← c.parent_at.ensures.ok) c.pass_up-start.ensures.found in
    let fits = first_fits c.args.parents.now c.requires.kept (length c.args.ends.now) c.requires.fits c.loop-v.v c.pass_up-start.result (at_each c.args.ends.now) c.loop-v.starts c.loop-v.ends (omega arith) c.loop-v.invariant.laid at in
    omega (arith, fits, c.requires.room)

pub loop-v-preserved : goal.loop-v-preserved
loop-v-preserved c =
    let at : c.pass_up-start.result ≡ first_left c.loop-v.ends (parent_of c.args.parents.now c.loop-v.v) = rw (← c.parent_at.ensures.ok) c.pass_up-start.ensures.found in
    let next = lists_next c.args.parents.now c.requires.kept (length c.args.ends.now) c.requires.fits c.loop-v.v c.pass_up-start.result (at_each c.args.ends.now) c.loop-v.starts c.loop-v.ends c.loop-v.invariant.starts_len c.loop-v.invariant.ends_len (omega arith) c.requires.found c.loop-v.invariant.laid at in
    record {
      starts_len = length-set c.loop-v.starts c.loop-v.v c.pass_up-start.result ∙ c.loop-v.invariant.starts_len;
      ends_len = rw (c.pass_up-start.ensures.ok) (length-set _ c.loop-v.v (c.pass_up-start.result + 1) ∙ passed_len c.loop-v.ends c.parent_at.result c.loop-v.v ∙ c.loop-v.invariant.ends_len);
      laid = rw (c.pass_up-start.ensures.ok, c.parent_at.ensures.ok) next;
    }

pub returns : goal.returns
returns c =
    let n = length c.args.ends.now in
    let end : c.loop-v.v ≡ n = omega arith in
    let laid = subst (λ (i : ℕ). IsLaid c.args.parents.now n i (at_each c.args.ends.now) (at_each c.loop-v.starts) (at_each c.loop-v.ends)) end c.loop-v.invariant.laid in
    record { ok = laid_ends c.args.parents.now c.requires.kept n (at_each c.args.ends.now) (at_each c.loop-v.starts) (at_each c.loop-v.ends) laid }
