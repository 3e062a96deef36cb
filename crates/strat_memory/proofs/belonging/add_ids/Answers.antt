use Rattle.std.proofs.Common.{sym, ◌∙◌, arith}
use Rattle.std.proofs.lemmas.Bool.{not-true, not-false}
use Rattle.std.specs.BTreeSet.{contains}
use Rattle.std.specs.Ordering.{nat_cmp}
use Rattle.strat_memory.proofs.IdLemmas.{id_added, id_stops}
use Rattle.strat_memory.proofs.belonging.add_ids.Goals as goal

pub returns-then-not-added : goal.returns-then-not-added
returns-then-not-added c = record {
  ok = id_stops c.args.arrays.now c.loop-array.array-index c.array-item.result (omega arith) c.array-item.is (contains nat_cmp c.args.seen.now) (contains nat_cmp c.loop-array.seen) c.loop-array.invariant
      (not-false (contains nat_cmp c.loop-array.seen c.array-item.result.id) (sym c.in-Ok.ensures.added ∙ c.if-not-added.true));
}

pub loop-array-preserved : goal.loop-array-preserved
loop-array-preserved c =
    id_added c.args.arrays.now c.loop-array.array-index c.array-item.result (omega arith) c.array-item.is (contains nat_cmp c.args.seen.now) (contains nat_cmp c.loop-array.seen) c.loop-array.invariant (contains nat_cmp c.insert.new.self)
    (not-true (contains nat_cmp c.loop-array.seen c.array-item.result.id) (sym c.in-Ok.ensures.added ∙ c.if-not-added.false)) c.in-Ok.ensures.updates.0
