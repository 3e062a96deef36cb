-- What cursors hold on to: shares in arenas, and lists and arrays that they read.
use Rattle.std.specs.Prelude.{◌≡◌, ◌≤◌, ◌<◌, ◌+◌, ◌==◌, ℕ, List, [], ◌∷◌, ◌++◌, length, count_by, flat_map, take, Option, Some, None, Contains, IfSome, IsTrue}
use Rattle.strat_arena.specs.PoolView.{pool_entry, arena_at, shares_at}
use Rattle.strat_arena.specs.declared.pool.PoolEntry.{PoolEntry}
use Rattle.strat_base.specs.Tree.{Parents}
use Rattle.strat_base.specs.declared.descriptors.ArrayDesc.{ArrayDesc}
use Rattle.strat_level.specs.Memtable.{ItemList, Memtable, entries_held, ListStands}
use Rattle.def_meaning.specs.TableOver.{are_known}
use Rattle.strat_base.specs.declared.descriptors.LevelDesc.{LevelDesc}
use Rattle.strat_cursor.specs.Looking.{MayBeFound, arrays_asked, arrays_there}
use Rattle.strat_cursor.specs.Cursors.{OpenCursor, CursorsView}

-- the arena of a list, if there is one
abbrev pub arena_pinned : Option ItemList → List ℕ
arena_pinned None = []
arena_pinned (Some list) = list.arena ∷ []

-- the arenas in which a cursor has a share
abbrev pub arenas_of : OpenCursor → List ℕ
arenas_of c = c.zero.arena ∷ arena_pinned c.sealed

-- how many shares in an arena these cursors have
abbrev pub shares_of : List OpenCursor → ℕ → ℕ
shares_of cursors n = count_by (λ a. a == n) (flat_map arenas_of cursors)

-- a pool is as it was
abbrev pub IsSamePool : List PoolEntry → List PoolEntry → Type 0
IsSamePool old new = (n : ℕ) → pool_entry new n ≡ pool_entry old n

-- of each arena the shares of these cursors were taken or given back, and no other ones, and what still
-- has a share is as it was
pub record SharesFollow (old new : List PoolEntry) (before after : List OpenCursor) : Type 0 where
  pub shares : (n : ℕ) → shares_at new n + shares_of before n ≡ shares_at old n + shares_of after n
  pub arenas : (n : ℕ) → 0 < shares_at new n → arena_at new n ≡ arena_at old n

-- the lists of level 0 that a cursor reads stand
pub record ListsStand (pool : List PoolEntry) (c : OpenCursor) : Type 0 where
  pub zero : ListStands pool c.zero
  pub sealed : IfSome c.sealed (ListStands pool)

-- the lists of these cursors stand, and each cursor has its shares
pub record HoldShares (pool : List PoolEntry) (cursors : List OpenCursor) : Type 0 where
  pub stand : (c : OpenCursor) → Contains cursors c → ListsStand pool c
  pub shares : (n : ℕ) → shares_of cursors n ≤ shares_at pool n

-- the entries of a list are at versions of the tree
abbrev pub IsListKnown : List PoolEntry → Parents → ItemList → Type 0
IsListKnown pool parents list = IsTrue (are_known parents (entries_held pool list))

-- a cursor reads a version of the tree, in lists at such versions and in arrays that may be read, of each
-- level one at most
pub record IsPinned (pool : List PoolEntry) (parents : Parents) (c : OpenCursor) : Type 0 where
  pub zero : IsListKnown pool parents c.zero
  pub sealed : IfSome c.sealed (IsListKnown pool parents)
  pub arrays : MayBeFound c.arrays
  pub few : length c.arrays ≤ 22
  pub version : c.version < length parents

-- what a cursor at a version is to pin is there: the lists of level 0 stand, at versions of the tree, and
-- the arrays of the levels may be read
pub record MayBePinned (pool : List PoolEntry) (parents : Parents) (zero : Memtable)
    (sealed : Option Memtable) (levels : List (Option LevelDesc)) (version : ℕ) : Type 0 where
  pub first : ListStands pool zero.list × IsListKnown pool parents zero.list
  pub second : IfSome sealed (λ z. ListStands pool z.list × IsListKnown pool parents z.list)
  pub arrays : MayBeFound (arrays_there levels)
  pub known : version < length parents

-- these cursors may go on
pub record ArePinned (pool : List PoolEntry) (parents : Parents) (cursors : List OpenCursor)
    : Type 0 where
  pub held : HoldShares pool cursors
  pub each : (c : OpenCursor) → Contains cursors c → IsPinned pool parents c

-- shares in these arenas were taken, and all arenas are as they were
pub record TakesShares (old new : List PoolEntry) (taken : List ℕ) : Type 0 where
  pub shares : (n : ℕ) → shares_at new n ≡ shares_at old n + count_by (λ a. a == n) taken
  pub arenas : (n : ℕ) → arena_at new n ≡ arena_at old n

-- shares in these arenas were given back, and what still has a share is as it was
pub record GivesShares (old new : List PoolEntry) (given : List ℕ) : Type 0 where
  pub shares : (n : ℕ) → shares_at new n + count_by (λ a. a == n) given ≡ shares_at old n
  pub arenas : (n : ℕ) → 0 < shares_at new n → arena_at new n ≡ arena_at old n

-- a list has the items of another
pub record IsCopyOf (of list : ItemList) : Type 0 where
  pub arena : list.arena ≡ of.arena
  pub items : list.items ≡ of.items

-- a list is there where another level 0 is, and has its items
abbrev pub IsCopyIfAny : Option Memtable → Option ItemList → Type 0
IsCopyIfAny None None = Unit {0}
IsCopyIfAny None (Some list) = ⊥
IsCopyIfAny (Some zero) None = ⊥
IsCopyIfAny (Some zero) (Some list) = IsCopyOf zero.list list

-- a cursor over a range of a version was opened behind the others, with the next number: it reads these
-- lists and arrays
pub record IsStarted (old new : CursorsView) (version : ℕ) (lo hi : List ℕ) (zero : Memtable)
    (sealed : Option Memtable) (arrays : List ArrayDesc) : Type 0 where
  pub cursor : OpenCursor
  pub zero_is : IsCopyOf zero.list cursor.zero
  pub sealed_is : IsCopyIfAny sealed cursor.sealed
  pub rest : cursor ≡ record {
    number = old.next;
    version = version;
    zero = cursor.zero;
    sealed = cursor.sealed;
    arrays = arrays;
    from = Some lo;
    hi = hi;
  }
  pub after : new ≡ record old { opened = old.opened ++ cursor ∷ []; next = old.next + 1 }

-- of each of the first levels the array that is read at a version, if it has one
abbrev pub arrays_before : Parents → List (Option LevelDesc) → ℕ → ℕ → List ArrayDesc
arrays_before parents levels n v = arrays_asked parents (take n levels) v
