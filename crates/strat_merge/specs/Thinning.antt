-- Which items of a key tell something that the parents of their versions do not see.
use Rattle.std.specs.Prelude.{ℕ, ◌&&◌, not, Bool, if◌then◌else◌, List, [], ◌∷◌, find, Option, option_and_then}
use Rattle.strat_base.specs.Tree.{Parents, parent_of, is_ancestor}
use Rattle.strat_base.specs.Marks.{Marks, is_dropped}
use Rattle.strat_base.specs.Entries.{is_same_value}
use Rattle.strat_arena.specs.ArenaView.{KeyValue}
use Rattle.strat_arena.specs.declared.items.Item.{Item}
use Rattle.strat_arena.specs.Items.{pair_of, said_by}

-- what an item says of its key: its value, or that the key is gone
abbrev pub item_says : List KeyValue → Item → Option (List ℕ)
item_says pairs item = said_by item.gone (pair_of pairs item).value

-- what the first of some items of a key, the greatest version first, says that is at v or above it
abbrev pub said_at : Parents → List KeyValue → List Item → ℕ → Option (List ℕ)
said_at parents pairs items v =
    option_and_then (item_says pairs) (find (λ item. is_ancestor parents item.version v) items)

-- an item's version is living, and its parent sees something else among the items behind it
abbrev pub is_told : Parents → Marks → List KeyValue → Item → List Item → Bool
is_told parents marks pairs item later =
    not (is_dropped marks item.version)
    && not (is_same_value
    (item_says pairs item)
    (option_and_then (λ p. said_at parents pairs later p) (parent_of parents item.version)))

-- the items that tell something
abbrev pub told_items : Parents → Marks → List KeyValue → List Item → List Item
told_items parents marks pairs [] = []
told_items parents marks pairs (item ∷ items) =
    if is_told parents marks pairs item items then item ∷ told_items parents marks pairs items
    else told_items parents marks pairs items
