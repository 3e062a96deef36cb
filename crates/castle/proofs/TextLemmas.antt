-- The line that formatting prints.
use Rattle.std.proofs.Common.{◌≡◌, ℕ, List, [], ◌∷◌, ◌++◌, sym, append_assoc, append-nil}
use Rattle.std.specs.Prelude.{codes}
use Rattle.std.specs.Fmt.{decimal}
use Rattle.castle.specs.Outcomes.{format_text}

-- texts that stand in brackets, one behind the other
joined : (a b c d e f g : List ℕ) → (a ++ (b ++ (c ++ (d ++ (e ++ (f ++ [])))))) ++ g ++ [] ≡ a ++ (b ++ (c ++ (d ++ (e ++ (f ++ g)))))
joined a b c d e f g = simp (append_assoc, append-nil)

-- the line piece by piece
pub format_pieces : (mem changes_max versions_max : ℕ) → codes "format 2 mem " ++ (decimal mem ++ (codes " changes " ++ (decimal changes_max ++ (codes " versions " ++ (decimal versions_max ++ 10 ∷ []))))) ≡ format_text mem changes_max versions_max
format_pieces mem changes_max versions_max =
    sym (joined (codes "format 2 mem ") (decimal mem) (codes " changes ") (decimal changes_max) (codes " versions ") (decimal versions_max) (10 ∷ []))
