-- The items of one key, and which of them are live at a version.
use Rattle.std.specs.Prelude.{ℕ, nat_lt, ◌&&◌, not, Bool, true, List, [], ◌∷◌}
use Rattle.std.specs.List.{list_any, list_all}
use Rattle.strat_base.specs.Tree.{Parents, is_ancestor}
use Rattle.strat_arena.specs.declared.items.Item.{Item}

-- versions strictly descend
abbrev pub is_descending : List Item → Bool
is_descending [] = true
is_descending (item ∷ items) =
    list_all (λ later. nat_lt later.version item.version) items && is_descending items

-- an item stands at v or an ancestor of it, further down the path to v than a version
abbrev pub is_nearer : Parents → ℕ → ℕ → Item → Bool
is_nearer parents v version other =
    nat_lt version other.version && is_ancestor parents other.version v

-- an item of a key is live at v where its version is v or an ancestor, and no item of the key is nearer
abbrev pub is_live_item : Parents → List Item → ℕ → Item → Bool
is_live_item parents items v item =
    is_ancestor parents item.version v && not (list_any (is_nearer parents v item.version) items)
