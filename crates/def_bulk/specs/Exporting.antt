-- What an export of a version writes.
use Rattle.std.specs.Prelude.{ℕ, suc, false, List, [], ◌∷◌, map, None}
use Rattle.std.specs.List.{flat_map}
use Rattle.strat_base.specs.Change.{Change}
use Rattle.strat_base.specs.Change as change
use Rattle.strat_model.specs.Pairs.{Pairs}
use Rattle.strat_model.specs.Request.{Put}
use Rattle.strat_model.specs.Spelling.{command_body}
use Rattle.strat_model.specs.Stream.{frame}
use Rattle.strat_model.specs.Table.{Table}

-- the puts of some pairs at version 0
abbrev pub puts_of : Pairs → List Change
puts_of pairs = map (λ p. change.Put 0 p.0 p.1) pairs

-- the bodies of these puts, with tags from a first one on
abbrev pub put_bodies : ℕ → Pairs → List (List ℕ)
put_bodies n [] = []
put_bodies n (p ∷ pairs) = command_body n (Put 0 p.0 p.1) ∷ put_bodies (suc n) pairs

-- what is written of a map
abbrev pub exported : Pairs → List ℕ
exported pairs = flat_map frame (put_bodies 1 pairs)

-- a table with version 0 alone, which has this map, made by so many changes that all are updates
abbrev pub sole_version : ℕ → ℕ → ℕ → Pairs → Table
sole_version changes_max versions_max n pairs = record {
  changes_max = changes_max;
  versions_max = versions_max;
  rows = record { parent = None; dropped = false; pairs = pairs } ∷ [];
  updates = n;
  changes = n;
  cursors = [];
  next_cursor = 1;
}
