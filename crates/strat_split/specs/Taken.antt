-- Which items of one key the array of a part takes.
use Rattle.std.specs.Prelude.{ℕ, ◌==◌, ◌||◌, Bool, false, List, Option}
use Rattle.std.specs.Option.{option_map_or}
use Rattle.strat_base.specs.Tree.{Parents}
use Rattle.strat_arena.specs.declared.items.Item.{Item}
use Rattle.strat_live.specs.Group.{is_live_item}
use Rattle.def_split.specs.Plan.{Plan, part_of, part_at}

-- an item is live where a part hangs
abbrev pub is_inherited_item : Parents → List Item → Option ℕ → Item → Bool
is_inherited_item parents items above item =
    option_map_or (λ p. is_live_item parents items p item) above false

-- a part takes an item: it is a lead of the part, or live where the part hangs
abbrev pub is_taken_item : Parents → Plan → List Item → ℕ → Item → Bool
is_taken_item parents plan items q item =
    (part_of plan item.version == q) || is_inherited_item parents items (part_at plan q).above item
