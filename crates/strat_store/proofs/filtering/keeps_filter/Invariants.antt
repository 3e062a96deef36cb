use Rattle.std.proofs.Common.{◌<◌, ◌+◌, ℕ}
use Rattle.strat_store.specs.Filtering.{KeepsFilterAt}
use Rattle.strat_store.proofs.filtering.keeps_filter.Given as goal

abbrev pub invariant-loop-above : goal.invariant-loop-above
invariant-loop-above l = (n : ℕ) → n < l.above + 1 → KeepsFilterAt l.filters l.levels n l.id → ⊥
