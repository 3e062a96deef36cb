use Rattle.std.proofs.Common.{◌≡◌, ℕ, List, drop, ◌++◌}
use Rattle.std.specs.BTreeSet.{contains}
use Rattle.std.specs.Ordering.{nat_cmp}
use Rattle.def_publish.specs.Occupied.{arrays_in}
use Rattle.strat_memory.specs.Belonging.{are_new}
use Rattle.strat_memory.proofs.IdLemmas.{ids}
use Rattle.strat_memory.proofs.belonging.add_all_ids.Given as goal

abbrev pub invariant-loop-level : goal.invariant-loop-level
invariant-loop-level l =
    (rest : List ℕ) → are_new (contains nat_cmp l.seen) (ids (arrays_in (drop l.level-index l.levels)) ++ rest) ≡ are_new (contains nat_cmp l.fn.seen) (ids (arrays_in l.levels) ++ rest)
