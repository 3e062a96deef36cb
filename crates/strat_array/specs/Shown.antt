-- The blocks that a cache shows.
use Rattle.std.specs.Prelude.{ℕ, List}
use Rattle.lru.specs.LruCache.{LruCache}
use Rattle.strat_base.specs.Entries.{Entry}
use Rattle.strat_array.specs.Kept.{Blocks}

-- the blocks of a map that is bounded
abbrev pub blocks_in : LruCache (ℕ × ℕ) (List Entry) → Blocks
blocks_in c = record { entries = c.entries; cap = c.cap }
