-- Runs in which each body is answered as the table says.
use Rattle.std.specs.Prelude.{◌≡◌, ℕ, List, [], ◌∷◌, IsTrue}
use Rattle.std.specs.List.{AllByRecursion}
use Rattle.strat_base.specs.Sizes.{is_key, is_value}
use Rattle.strat_model.specs.Pairs.{Pairs}
use Rattle.strat_model.specs.Run.{Exchange, Position, AnswersByTable}

-- a run from one position to another in which each body is a command that is carried out as the step of the table says
abbrev pub IsRunByTable : ℕ → Position → List Exchange → Position → Type 0
IsRunByTable mem at [] after = after ≡ at
IsRunByTable mem at (x ∷ xs) after =
    (x.at ≡ at) × ((mid : Position) × AnswersByTable mem at x.body x.response mid
    × IsRunByTable mem mid xs after)

-- each pair has sizes as they may be
abbrev pub AreLawful : Pairs → Type 0
AreLawful pairs = AllByRecursion (λ p. IsTrue (is_key p.0) × IsTrue (is_value p.1)) pairs
