-- Cursors: the pairs of a range of a version as they were, told page by page.
use Rattle.std.specs.Prelude.{◌≡◌, ◌<◌, ◌-◌, ◌==◌, nat_lt, ℕ, Bool, if◌then◌else◌, not, List, [], ◌∷◌, ◌++◌, length, map, filter, flat_map, drop, slice_index_or, Option, Some, None}
use Rattle.std.specs.List.{list_any, list_all, AllByRecursion}
use Rattle.std.specs.List.Sorted.{IsStrictlySortedBy}
use Rattle.std.specs.Ordering.{nat_cmp}
use Rattle.strat_arena.specs.declared.pool.PoolEntry.{PoolEntry}
use Rattle.strat_array.specs.Kept.{Blocks}
use Rattle.strat_base.specs.Entries.{Entry}
use Rattle.strat_base.specs.Tree.{Parents}
use Rattle.strat_base.specs.declared.descriptors.ArrayDesc.{ArrayDesc}
use Rattle.def_crash.specs.Image.{Image}
use Rattle.strat_level.specs.Memtable.{ItemList, entries_held}
use Rattle.strat_model.specs.Pairs.{Pairs, range}
use Rattle.strat_cursor.specs.Looking.{AreInOrder, HaveOwnIds, AreCachedFrom}
use Rattle.strat_cursor.specs.Ranges.{sealed_held, IsMapSeen, IsPageOf}

-- an open cursor: its number, the version that it reads, level 0 and a sealed one as they were at its
-- opening, in lists of some form, the array of each level, the shallowest first, the least key that it
-- may tell, or nothing where it has told all, and its upper bound
pub record CursorOver (L : Type 0) : Type 0 where
  pub number : ℕ
  pub version : ℕ
  pub zero : L
  pub sealed : Option L
  pub arrays : List ArrayDesc
  pub from : Option (List ℕ)
  pub hi : List ℕ

-- the open cursors, the number of the next one, the arrays that no level names any more but a cursor
-- does, and how many of these there may be without taking memory
pub record CursorsOver (L : Type 0) : Type 0 where
  pub opened : List (CursorOver L)
  pub next : ℕ
  pub retired : List ArrayDesc
  pub room : ℕ

-- an open cursor as it lies in memory: its lists are of items whose keys and values a pool has
abbrev pub OpenCursor : Type 0
OpenCursor = CursorOver ItemList

abbrev pub CursorsView : Type 0
CursorsView = CursorsOver ItemList

-- the lists of level 0 that a cursor reads, the newest first
abbrev pub zeros_pinned : List PoolEntry → OpenCursor → List (List Entry)
zeros_pinned pool c = entries_held pool c.zero ∷ sealed_held pool c.sealed

-- the pairs from a key on, or none
abbrev pub range_left : Pairs → Option (List ℕ) → List ℕ → Pairs
range_left m None hi = []
range_left m (Some lo) hi = range m lo hi

-- what a cursor has left of the map that it reads
abbrev pub pairs_left : {L : Type 0} → Pairs → CursorOver L → Pairs
pairs_left m c = range_left m c.from c.hi

-- these pairs are the map that a cursor reads in an image
abbrev pub IsMapPinned : Image → Parents → List PoolEntry → OpenCursor → Pairs → Type 0
IsMapPinned f parents pool c m = IsMapSeen f parents (zeros_pinned pool c) c.arrays c.version m

-- the least key after the last one told
abbrev pub behind_told : Pairs → List ℕ
behind_told told = (slice_index_or told (length told - 1) ([], [])).0 ++ 0 ∷ []

-- where a cursor goes on after a page: nowhere where no others follow, and else behind it
abbrev pub goes_on : Option (List ℕ) → Bool → Pairs → Option (List ℕ)
goes_on None more told = None
goes_on (Some lo) more told =
    if more then Some (if nat_lt 0 (length told) then behind_told told else lo) else None

-- a cursor after it told a page
abbrev pub moved_on : {L : Type 0} → Bool → Pairs → CursorOver L → CursorOver L
moved_on more told c = record c { from = goes_on c.from more told }

-- the cursors after the one of a number told a page
abbrev pub moved_at : {L : Type 0} → ℕ → Bool → Pairs → List (CursorOver L) → List (CursorOver L)
moved_at number more told cursors =
    map (λ c. if c.number == number then moved_on more told c else c) cursors

-- the first pairs of what a cursor had left were told, and it has the others left
pub record TellsNext {L : Type 0} (m : Pairs) (c : CursorOver L) (limit : ℕ) (told : Pairs)
    (more : Bool) : Type 0 where
  pub page : IsPageOf (pairs_left m c) limit told more
  pub left : pairs_left m (moved_on more told c) ≡ drop limit (pairs_left m c)

-- one of these cursors has this number
abbrev pub is_opened : {L : Type 0} → ℕ → List (CursorOver L) → Bool
is_opened number cursors = list_any (λ c. c.number == number) cursors

-- the cursors without the one of a number
abbrev pub without_cursor : {L : Type 0} → ℕ → List (CursorOver L) → List (CursorOver L)
without_cursor number cursors = filter (λ c. not (c.number == number)) cursors

-- all arrays that cursors name
abbrev pub arrays_named : {L : Type 0} → List (CursorOver L) → List ArrayDesc
arrays_named cursors = flat_map (λ c. c.arrays) cursors

-- the arrays that the cursor of a number names, if there is one
abbrev pub arrays_of_number : {L : Type 0} → ℕ → List (CursorOver L) → List ArrayDesc
arrays_of_number number cursors = arrays_named (filter (λ c. c.number == number) cursors)

-- some cursor names the array of a number
abbrev pub is_array_named : {L : Type 0} → List (CursorOver L) → ℕ → Bool
is_array_named cursors id = list_any (λ c. list_any (λ a. a.id == id) c.arrays) cursors

-- the arrays among these that some cursor names
abbrev pub those_named : {L : Type 0} → List (CursorOver L) → List ArrayDesc → List ArrayDesc
those_named cursors arrays = filter (λ a. is_array_named cursors a.id) arrays

-- some cursor names each of these arrays
abbrev pub are_named : {L : Type 0} → List (CursorOver L) → List ArrayDesc → Bool
are_named cursors arrays = list_all (λ a. is_array_named cursors a.id) arrays

-- the numbers of cursors ascend, and are below the next one
pub record AreNumberedBelow {L : Type 0} (cursors : List (CursorOver L)) (next : ℕ) : Type 0 where
  pub ascending : IsStrictlySortedBy nat_cmp (map (λ c. c.number) cursors)
  pub below : AllByRecursion (λ (c : CursorOver L). c.number < next) cursors

-- cursors after the one of a number was closed: arrays that no other names are kept no longer
abbrev pub closed_at : {L : Type 0} → ℕ → CursorsOver L → CursorsOver L
closed_at number c = record c {
  opened = without_cursor number c.opened;
  retired = those_named (without_cursor number c.opened) c.retired;
}

-- cursors after an array was retired: it is kept where one of them names it
abbrev pub retired_by : {L : Type 0} → ArrayDesc → CursorsOver L → CursorsOver L
retired_by a c =
    if is_array_named c.opened a.id then record c { retired = c.retired ++ a ∷ [] } else c

-- cursors after these arrays were retired, the last one first
unfoldable pub retired_all : {L : Type 0} → List ArrayDesc → CursorsOver L → CursorsOver L
retired_all [] c = c
retired_all (a ∷ arrays) c = retired_by a (retired_all arrays c)

-- in an image the arrays of a cursor have entries in order, and what is cached of them is as it stands
-- there
pub record MayGoOn {L : Type 0} (f : Image) (next_array : ℕ) (c : CursorOver L) (cached : Blocks)
    : Type 0 where
  pub ordered : AreInOrder f c.arrays
  pub ids : HaveOwnIds c.arrays
  pub same : AreCachedFrom f next_array c.arrays cached
