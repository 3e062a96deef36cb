-- The fields of a store's memory.
use Rattle.std.specs.Prelude.{◌≡◌, ◌≢◌, ◌≤◌, ◌+◌, ◌==◌, ℕ, [], ◌∷◌, nat_lt, length, map, List, Option, Some, None, IfSome, IsTrue, count_by, option_map}
use Rattle.std.specs.List.{AllByRecursion, list_all}
use Rattle.std.specs.Option.{option_to_list}
use Rattle.strat_arena.specs.PoolView.{shares_at}
use Rattle.strat_arena.specs.declared.pool.PoolEntry.{PoolEntry}
use Rattle.strat_base.specs.Tree.{Parents}
use Rattle.strat_cursor.specs.Cursors.{OpenCursor}
use Rattle.strat_cursor.specs.Held.{cursors_held}
use Rattle.strat_cursor.specs.Pins.{ArePinned, shares_of}
use Rattle.strat_level.specs.Memtable.{Memtable, entries_held, MemtableStands}
use Rattle.def_meaning.specs.TableOver.{are_known}
use Rattle.strat_memory.specs.Memory.{Memory, SealedLevel}
use Rattle.strat_memory.specs.declared.memory.Memory.TheInside.{Inside}
use Rattle.strat_memory.specs.declared.memory.Sealed.{Sealed}
use Rattle.strat_manifest.specs.ManifestView.{marks_listed}

-- a sealed level 0 whose keys and values a pool has
abbrev pub sealed_seen : List PoolEntry → Sealed → SealedLevel
sealed_seen pool z = record {
  entries = entries_held pool z.zero.list;
  versions = z.versions;
  marks = marks_listed z.marks;
  updates = z.updates;
  changes = z.changes;
}

-- the memory of these fields
abbrev pub memory_held : Inside → Memory
memory_held a = record {
  changes_max = a.changes_max;
  versions_max = a.versions_max;
  parents = a.tree.parents;
  marks = a.tree.marks;
  updates = a.updates;
  changes = a.changes;
  entries = entries_held a.pool a.zero.list;
  sealed = option_map (sealed_seen a.pool) a.sealed;
  spare = a.zero.spare;
  ready = option_map (λ next. next.spare) a.next;
  cursors = cursors_held a.pool a.cursors;
}

-- the memtables beside level 0: the sealed one, where there is one, and the next one, where that stands ready
abbrev pub lists_beside : Option Sealed → Option Memtable → List Memtable
lists_beside None next = option_to_list next
lists_beside (Some z) next = z.zero ∷ option_to_list next

-- the arenas of level 0 and of memtables beside it
abbrev pub own_arenas : Memtable → List Memtable → List ℕ
own_arenas zero others = zero.list.arena ∷ map (λ z. z.list.arena) others

-- a memtable stands in a pool beside level 0, in another arena
pub record StandsBeside (pool : List PoolEntry) (zero z : Memtable) : Type 0 where
  pub stands : MemtableStands pool z
  pub apart : z.list.arena ≢ zero.list.arena

-- level 0, the memtables beside it and the cursors stand in a pool, and all of its shares are theirs
pub record StandInPool (pool : List PoolEntry) (parents : Parents) (zero : Memtable)
    (others : List Memtable) (cursors : List OpenCursor) : Type 0 where
  pub level : MemtableStands pool zero
  pub beside : AllByRecursion (StandsBeside pool zero) others
  pub pinned : ArePinned pool parents cursors
  pub shares : (n : ℕ) → shares_at pool n
      ≡ count_by (λ a. a == n) (own_arenas zero others) + shares_of cursors n

-- the entries of a sealed level 0 are at versions that there were when it was sealed
pub record IsSealedBelow (pool : List PoolEntry) (parents : Parents) (z : Sealed) : Type 0 where
  pub low : IsTrue (list_all (λ e. nat_lt e.version z.versions) (entries_held pool z.zero.list))
  pub versions : z.versions ≤ length parents

-- the fields are those of a store's memory: level 0 and all that stands beside it is in the pool, the next one without items,
-- the entries are at versions of the tree, and what was accepted is within the limits
pub record IsInMemory (a : Inside) : Type 0 where
  pub stand : StandInPool a.pool a.tree.parents a.zero (lists_beside a.sealed a.next)
      a.cursors.opened
  pub known : IsTrue (are_known a.tree.parents (entries_held a.pool a.zero.list))
  pub sealed : IfSome a.sealed (IsSealedBelow a.pool a.tree.parents)
  pub fresh : IfSome a.next (λ next. next.list.items ≡ [])
  pub changes : a.changes ≤ a.changes_max
  pub updates : a.updates ≤ a.changes
  pub versions : a.tree.versions_max ≡ a.versions_max
