use Rattle.std.proofs.Common.{◌≡◌, ◌≤◌, ◌+◌, ℕ}
use Rattle.strat_cursor.specs.Looking.{HaveFewBlocks, reads_of_arrays}
use Rattle.strat_store.proofs.LookLemmas.{Passing, unrefused_behind}
use Rattle.strat_store.specs.Filtering.{arrays_unrefused}
use Rattle.strat_store.proofs.level_lookup.get_from_levels.Given as goal

abbrev pub invariant-loop-above : goal.invariant-loop-above
invariant-loop-above g l =
    Passing (g.D.Disk.view l.initial.disk) (g.D.Disk.view l.disk) l.held.filters l.held.published.levels l.held.memory.parents l.key l.v l.above l.initial.cache l.cache
    × (l.out ≡ l.initial.out) × (g.D.Disk.faults l.disk ≡ g.D.Disk.faults l.initial.disk)
    × ((n : ℕ) → HaveFewBlocks n (arrays_unrefused l.held.filters l.held.memory.parents l.held.published.levels l.v l.key)
    → (g.D.Disk.reads l.initial.disk ≤ g.D.Disk.reads l.disk)
    × (g.D.Disk.reads l.disk + reads_of_arrays n (unrefused_behind l.held.filters l.held.memory.parents l.held.published.levels l.v l.key l.above) ≤ g.D.Disk.reads l.initial.disk + reads_of_arrays n (arrays_unrefused l.held.filters l.held.memory.parents l.held.published.levels l.v l.key)))
