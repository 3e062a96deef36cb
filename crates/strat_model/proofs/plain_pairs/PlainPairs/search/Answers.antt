use Rattle.std.proofs.Common.{sym, ap, ◌∙◌, arith}
use Rattle.strat_base.specs.Order.{key_cmp}
use Rattle.strat_model.proofs.PlainLemmas.{set_here}
use Rattle.strat_model.proofs.plain_pairs.PlainPairs.search.Goals as goal

pub returns-in-Equal : goal.returns-in-Equal
returns-in-Equal c = record {
  ok = rw (← c.self.view_is, ← c.deref-pair-items.ensures.value) (
    omega arith,
    λ value. set_here c.args.key.now value c.deref-pair-items.result.now c.loop-i.i c.pair-item.result (omega arith) c.pair-item.is
        (sym c.in-Equal.is ∙ c.cmp.ensures ∙ ap (key_cmp c.args.key.now) c.key.ensures.ok) (c.loop-i.invariant value),
  );
}
