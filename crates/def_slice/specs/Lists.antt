-- Level 0, the memtable, and a sealed one behind it while the active region of the journal is full.
use Rattle.std.specs.Prelude.{◌≡◌, ◌≤◌, ℕ, ◌+◌, List, ◌∷◌, length, take, drop, filter_map, Option, Some, None}
use Rattle.std.specs.Option.{option_to_list}
use Rattle.strat_base.specs.Change.{Change}
use Rattle.strat_base.specs.Entries.{Entry}
use Rattle.def_state.specs.Setting.{set_all}
use Rattle.def_state.specs.State.{update_of}

-- the entries that changes leave in a memtable: of each key and version the latest, in order
abbrev pub entries_left : List Change → List Entry
entries_left journal = set_all (filter_map update_of journal)

-- the memtables that a look-up asks, the newest first
abbrev pub lists_read : List Entry → Option (List Entry) → List (List Entry)
lists_read entries sealed = entries ∷ option_to_list sealed

-- level 0, and a sealed one where there is one, hold what a journal says, whose regions take `mem` changes each:
-- level 0 holds all of it; or the sealed one what fills the active region, and level 0 what came since. Level 0 has
-- room for `spare` updates more, no fewer than its region has for changes
abbrev pub HoldLists : ℕ → List Change → List Entry → Option (List Entry) → ℕ → Type 0
HoldLists mem journal entries None spare =
    (length journal ≤ mem) × (entries ≡ entries_left journal) × (mem ≤ spare + length journal)
HoldLists mem journal entries (Some sealed) spare =
    (mem ≤ length journal) × (sealed ≡ entries_left (take mem journal))
    × (entries ≡ entries_left (drop mem journal)) × (mem ≤ spare + length (drop mem journal))
