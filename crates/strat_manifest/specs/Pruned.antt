-- The marks of versions, one parent after the other.
use Rattle.std.specs.Prelude.{ℕ, suc, ◌&&◌, ◌||◌, not, Bool, true, List, [], ◌∷◌}
use Rattle.strat_base.specs.Marks.{Marks, is_dropped}

-- of the versions from v on with these parents each was dropped if its parent was
abbrev pub are_pruned_from : Marks → ℕ → List ℕ → Bool
are_pruned_from marks v [] = true
are_pruned_from marks v (parent ∷ parents) =
    (not (is_dropped marks parent) || is_dropped marks v) && are_pruned_from marks (suc v) parents
