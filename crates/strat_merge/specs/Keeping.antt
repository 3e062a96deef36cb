-- Which items of a key say something.
use Rattle.std.specs.Prelude.{ℕ, ◌||◌, not, Bool, false, if◌then◌else◌, List, [], ◌∷◌, find}
use Rattle.std.specs.Option.{option_map_or}
use Rattle.strat_base.specs.Tree.{Parents, parent_of, is_ancestor}
use Rattle.strat_arena.specs.declared.items.Item.{Item}

-- of some items of a key, the greatest version first, the first at v or above it is no mark that the key is gone
abbrev pub is_put_at : Parents → List Item → ℕ → Bool
is_put_at parents items v =
    option_map_or (λ item. not item.gone)
    (find (λ item. is_ancestor parents item.version v) items) false

-- an item is no such mark, or its version's parent sees a value among the items behind it
abbrev pub is_kept : Parents → Item → List Item → Bool
is_kept parents item later =
    not item.gone
    || option_map_or (λ p. is_put_at parents later p) (parent_of parents item.version) false

-- the items that say something
abbrev pub kept_items : Parents → List Item → List Item
kept_items parents [] = []
kept_items parents (item ∷ items) =
    if is_kept parents item items then item ∷ kept_items parents items
    else kept_items parents items
