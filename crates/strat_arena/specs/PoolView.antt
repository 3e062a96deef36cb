-- What a caller sees of a pool of arenas: for each number its arena and its shares. A number without shares is not in
-- the pool.
use Rattle.std.specs.Prelude.{◌≡◌, ◌≢◌, ℕ, Bool, List, slice_index_or, count_by, nat_lt}
use Rattle.strat_arena.specs.ArenaView.{ArenaView, no_arena}
use Rattle.strat_arena.specs.declared.pool.PoolEntry.{PoolEntry}

-- what a number stands for
abbrev pub pool_entry : List PoolEntry → ℕ → PoolEntry
pool_entry pool n = slice_index_or pool n (record { arena = no_arena; shares = 0 })

-- the arena of a number
abbrev pub arena_at : List PoolEntry → ℕ → ArenaView
arena_at pool n = (pool_entry pool n).arena

-- the shares of a number's arena
abbrev pub shares_at : List PoolEntry → ℕ → ℕ
shares_at pool n = (pool_entry pool n).shares

-- an entry is in the pool
abbrev pub is_shared : PoolEntry → Bool
is_shared entry = nat_lt 0 entry.shares

-- how many numbers are in the pool
abbrev pub count_shared : List PoolEntry → ℕ
count_shared pool = count_by is_shared pool

-- no other number's entry changed
abbrev pub SameBeside : List PoolEntry → List PoolEntry → ℕ → Type 0
SameBeside old new n = (m : ℕ) → m ≢ n → pool_entry new m ≡ pool_entry old m
