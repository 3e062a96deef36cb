use Rattle.std.proofs.Common.{◌≡◌, ℕ, false, ◌++◌, List, subst, arith}
use Rattle.std.specs.BTreeSet.{contains}
use Rattle.std.specs.Ordering.{nat_cmp}
use Rattle.strat_memory.specs.Belonging.{are_new}
use Rattle.strat_memory.proofs.IdLemmas.{ids, ids_added, ids_stop}
use Rattle.strat_memory.proofs.belonging.add_all_ids.Goals as goal

pub returns-then-not-branch : goal.returns-then-not-branch
returns-then-not-branch c = record {
  ok = ids_stop c.args.levels.now c.loop-level.level-index c.level-item.result (omega arith) c.level-item.is (contains nat_cmp c.args.seen.now) (contains nat_cmp c.loop-level.seen) c.loop-level.invariant
      (subst (λ arrays. (rest : List ℕ) → are_new (contains nat_cmp c.loop-level.seen) (ids arrays ++ rest) ≡ false) c.as_slice.ensures.ok (rw c.if-not-branch.true at c.in_ok-add_ids.ensures.ok));
}

pub loop-level-preserved : goal.loop-level-preserved
loop-level-preserved c =
    ids_added c.args.levels.now c.loop-level.level-index c.level-item.result (omega arith) c.level-item.is (contains nat_cmp c.args.seen.now) (contains nat_cmp c.loop-level.seen) c.loop-level.invariant (contains nat_cmp c.add_ids.new.seen)
    (subst (λ arrays. (rest : List ℕ) → are_new (contains nat_cmp c.add_ids.new.seen) rest ≡ are_new (contains nat_cmp c.loop-level.seen) (ids arrays ++ rest)) c.as_slice.ensures.ok (rw c.if-not-branch.false at c.in_ok-add_ids.ensures.ok))
