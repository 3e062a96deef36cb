-- The fields of an open store.
use Rattle.std.specs.Prelude.{◌≡◌, false}
use Rattle.strat_array.specs.Kept.{Blocks}
use Rattle.strat_memory.specs.Held.{Held, IsConsistent}
use Rattle.strat_cursor.specs.Looking.{AreOfOldArrays}
use Rattle.strat_memory.specs.Admitting.{chained_of}
use Rattle.strat_memory.specs.RecoveredFields.{held_of}
use Rattle.strat_store.specs.Staging.{HasRoomForStaged, held_joined, replies_staged}
use Rattle.strat_store.specs.declared.store.Store.TheInside.{Inside}

-- the store of these fields
abbrev pub store_held : Inside → Held
store_held s = record (held_of s.held s.cache) { spent = s.spent }

-- between two commands it holds what an opening may find once its staged changes are durable, for which the active region has
-- room, the replies to these, and no blocks of arrays that are yet to come, unless it is spent
abbrev pub IsWholeStore : Inside → Type 0
IsWholeStore s = s.spent ≡ false
    → ((cached : Blocks) → IsConsistent (held_joined (held_of s.held cached)))
    × AreOfOldArrays (chained_of s.held.published).manifest.next_array s.cache
    × (s.replies ≡ replies_staged (held_of s.held s.cache)) × HasRoomForStaged s.held.journal
