use Rattle.std.proofs.Common.{◌≡◌, ℕ, false, ◌∷◌, map, take, Some, None}
use Rattle.strat_base.specs.Marks.{is_dropped}
use Rattle.strat_memory.proofs.memory.grow.Given as goal

abbrev pub invariant-loop-p : goal.invariant-loop-p
invariant-loop-p l =
    (l.tree.parents ≡ None ∷ map (λ p. Some p) (take l.p-index l.parents))
    × (l.tree.versions_max ≡ l.fn.tree.versions_max)
    × ((v : ℕ) → is_dropped l.tree.marks v ≡ false)
