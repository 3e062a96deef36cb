-- The least living children of versions.
use Rattle.std.specs.Prelude.{ℕ, ◌-◌, ◌==◌, min, if◌then◌else◌, List, Option, length, find, unwrap_or, slice_index, slice_index_or}
use Rattle.std.specs.List.{fold, range_with_len}
use Rattle.std.specs.Option.{option_map_or}
use Rattle.strat_arena.specs.declared.items.Item.{Item}
use Rattle.strat_base.specs.Marks.{Marks}
use Rattle.strat_base.specs.Tree.{Parents}
use Rattle.strat_level.specs.Memtable.{ItemList}
use Rattle.strat_tree.specs.Living.{is_living_child}

-- the least living child of a version from a number on, or the number of versions
abbrev pub first_from : Parents → Marks → ℕ → ℕ → ℕ
first_from parents marks c v =
    unwrap_or (find (is_living_child parents marks v) (range_with_len c (length parents - c)))
    (length parents)

-- the lesser of a number and the least living child of a version
abbrev pub lowered_to_child : List ℕ → ℕ → ℕ → ℕ
lowered_to_child first n v = min (slice_index_or first v n) n

-- the same, where the version has entries of its own
abbrev pub lowered_by_own : List ℕ → List ℕ → ℕ → ℕ → ℕ
lowered_by_own own first n v = if slice_index own v == 0 then n else lowered_to_child first n v

-- the least of a number and of the least living children of the versions of items
abbrev pub lowered_by_items : List ℕ → ℕ → List Item → ℕ
lowered_by_items first n items = fold (λ k item. lowered_to_child first k item.version) n items

-- and of those of level 0 and of the sealed one, where there is one
abbrev pub lowered_by_zeros : List ℕ → ℕ → ItemList → Option ItemList → ℕ
lowered_by_zeros first n zero sealed =
    lowered_by_items first (option_map_or (λ z. lowered_by_items first n z.items) sealed n)
    zero.items
