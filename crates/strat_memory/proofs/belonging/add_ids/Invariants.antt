use Rattle.std.proofs.Common.{◌≡◌, ℕ, List, drop, ◌++◌}
use Rattle.std.specs.BTreeSet.{contains}
use Rattle.std.specs.Ordering.{nat_cmp}
use Rattle.strat_memory.specs.Belonging.{are_new}
use Rattle.strat_memory.proofs.IdLemmas.{ids}
use Rattle.strat_memory.proofs.belonging.add_ids.Given as goal

abbrev pub invariant-loop-array : goal.invariant-loop-array
invariant-loop-array l = (rest : List ℕ) → are_new (contains nat_cmp l.seen) (ids (drop l.array-index l.arrays) ++ rest) ≡ are_new (contains nat_cmp l.fn.seen) (ids l.arrays ++ rest)
