-- Items as entries: their keys and values are pairs of an arena.
use Rattle.std.specs.Prelude.{ℕ, nat_lt, Bool, true, false, List, [], map, length, Option, Some, None, slice_index_or}
use Rattle.std.specs.List.{list_all}
use Rattle.strat_base.specs.Entries.{Entry}
use Rattle.strat_arena.specs.ArenaView.{KeyValue}
use Rattle.strat_arena.specs.declared.items.Item.{Item}

-- the pair of an item
abbrev pub pair_of : List KeyValue → Item → KeyValue
pair_of pairs item = slice_index_or pairs item.slot.0 (record { key = []; value = [] })

-- what an item says of its key: nothing where it is gone, and else the value of its pair
abbrev pub said_by : Bool → List ℕ → Option (List ℕ)
said_by true value = None
said_by false value = Some value

-- the entry of an item
abbrev pub entry_of_item : List KeyValue → Item → Entry
entry_of_item pairs item = record {
  key = (pair_of pairs item).key;
  version = item.version;
  value = said_by item.gone (pair_of pairs item).value;
}

-- the entries of items
abbrev pub entries_of : List KeyValue → List Item → List Entry
entries_of pairs items = map (entry_of_item pairs) items

-- each of these items has a pair
abbrev pub have_pairs : List KeyValue → List Item → Bool
have_pairs pairs items = list_all (λ item. nat_lt item.slot.0 (length pairs)) items
