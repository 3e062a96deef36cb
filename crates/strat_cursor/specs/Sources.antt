-- The places that a range is read from, each with the entries that it has left.
use Rattle.std.specs.Prelude.{◌≡◌, ◌<◌, ℕ, ◌+◌, ◌-◌, ◌*◌, ◌^◌, ⊤, Bool, true, false, if◌then◌else◌, List, [], ◌∷◌, length, drop, find, slice_get, Option, None, Some, option_and_then, unwrap_or, IfSome, IsTrue}
use Rattle.std.specs.List.{list_all}
use Rattle.strat_arena.specs.declared.pool.PoolEntry.{PoolEntry}
use Rattle.strat_array.specs.Blocks.{lists_on}
use Rattle.strat_array.specs.Kept.{Blocks, Kept, ArrayStands}
use Rattle.strat_array.specs.Left.{is_from}
use Rattle.strat_array.specs.Steps.{blocks_ahead, left_from, HoldsPlace}
use Rattle.strat_array.specs.Walk.{is_seen_at}
use Rattle.strat_array.specs.Within.{AreWithin}
use Rattle.strat_array.specs.declared.place.Place.{Place}
use Rattle.strat_base.specs.Entries.{Entry, is_ascending}
use Rattle.strat_base.specs.Tree.{Parents, is_ancestor}
use Rattle.strat_base.specs.declared.descriptors.ArrayDesc.{ArrayDesc}
use Rattle.def_crash.specs.Image.{Image}
use Rattle.def_bytes.specs.Arrays.{blocks_of}
use Rattle.strat_level.specs.Memtable.{entries_held, ListStands}
use Rattle.strat_cursor.specs.Ahead.{is_after, is_to_come}
use Rattle.strat_cursor.specs.Looking.{MayBeAsked}
use Rattle.strat_cursor.specs.Ranges.{content_on}
use Rattle.strat_cursor.specs.declared.scan_buffers.SourcePosition.{SourcePosition}
use Rattle.strat_cursor.specs.declared.sources.Source.{Source}
use Rattle.strat_cursor.specs.declared.sources.Source.TheVariants as source

-- what is left after entries were passed over that say nothing of the keys after one
pub record PassesUndue (parents : Parents) (v : ℕ) (last : List ℕ) (old new : List Entry)
    : Type 0 where
  pub same : (key : List ℕ) → IsTrue (is_after last key)
      → find (is_seen_at parents key v) new ≡ find (is_seen_at parents key v) old
  pub ordered : IsTrue (is_ascending old) → IsTrue (is_ascending new)
  pub among : (p : Entry → Bool) → IsTrue (list_all p old) → IsTrue (list_all p new)

-- an entry says something at a version of a key after one
abbrev pub is_due : Parents → ℕ → List ℕ → Entry → Bool
is_due parents v last e = if is_after last e.key then is_ancestor parents e.version v else false

-- the lists of an array's blocks in an image, or none where a block is no block of entries
abbrev pub lists_of : Image → ArrayDesc → List (List Entry)
lists_of f a = unwrap_or (lists_on f (blocks_of a.extents)) []

-- a source is a place, which the one that stands for none is not
abbrev pub is_place : Source → Bool
is_place source.None = false
is_place (source.Zero list) = true
is_place (source.Array a) = true

-- the arrays of a source: one, or none
abbrev pub arrays_at : Source → List ArrayDesc
arrays_at source.None = []
arrays_at (source.Zero list) = []
arrays_at (source.Array a) = a.now ∷ []

-- all entries of a source
abbrev pub content_of : Image → List PoolEntry → Source → List Entry
content_of f pool source.None = []
content_of f pool (source.Zero list) = entries_held pool list.now
content_of f pool (source.Array a) = content_on f a.now

-- the entries that a source has left
abbrev pub left_at_source : Image → List PoolEntry → Source → SourcePosition → List Entry
left_at_source f pool source.None position = []
left_at_source f pool (source.Zero list) position =
    drop position.item (entries_held pool list.now)
left_at_source f pool (source.Array a) position =
    if position.there then left_from (lists_of f a.now) position.place else []

-- the entries from a place on, where there is one
abbrev pub left_behind : List (List Entry) → Option Place → List Entry
left_behind lists None = []
left_behind lists (Some at) = left_from lists at

-- how many places an array may have from one on
abbrev pub places_ahead : Place → ℕ
places_ahead place = 65536 * (2 ^ 32 - place.block) + (65536 - place.index)

-- how many blocks of an array, which has so many, are still to be read from a place on, where there is one
abbrev pub blocks_behind : Option Kept → ℕ → ℕ → Option Place → ℕ
blocks_behind s array count None = 0
blocks_behind s array count (Some at) = blocks_ahead s array count at

-- the entry of a block that a scratch holds
abbrev pub entry_held : Option Kept → ℕ → Option Entry
entry_held s i = option_and_then (λ kept. slice_get kept.1 i) s

-- the first entry that a source has left, as it is at hand
abbrev pub first_at_source : List PoolEntry → Source → SourcePosition → Option Entry
first_at_source pool source.None position = None
first_at_source pool (source.Zero list) position =
    slice_get (entries_held pool list.now) position.item
first_at_source pool (source.Array a) position =
    if position.there then entry_held position.scratch position.place.index else None

-- a source can be read
abbrev pub MayBeRead : List PoolEntry → Source → Type 0
MayBeRead pool source.None = ⊤
MayBeRead pool (source.Zero list) = ListStands pool list.now
MayBeRead pool (source.Array a) = AreWithin a.now.extents

-- the first entry that a source has left is at hand
abbrev pub HasHead : Source → SourcePosition → Type 0
HasHead source.None position = ⊤
HasHead (source.Zero list) position = ⊤
HasHead (source.Array a) position =
    IsTrue position.there → HoldsPlace position.scratch a.now.id position.place
    × (position.place.index < 454)

-- the first entry that a source has left is at hand, and is at a version or an ancestor of it
pub record IsSettledAt (parents : Parents) (v : ℕ) (pool : List PoolEntry) (s : Source)
    (position : SourcePosition) : Type 0 where
  pub held : HasHead s position
  pub on_path : IfSome (first_at_source pool s position)
      (λ e. IsTrue (is_ancestor parents e.version v))

-- in an image the blocks of a source's array are kept as they stand there
abbrev pub StandsIn : Image → Blocks → Source → Option Kept → Type 0
StandsIn f c source.None s = ⊤
StandsIn f c (source.Zero list) s = ⊤
StandsIn f c (source.Array a) s =
    ArrayStands (Some f) a.now.id (blocks_of a.now.extents) c s (lists_of f a.now)

-- in an image a source's array has entries, in order, and its blocks in a cache are as they stand there
abbrev pub MayBeBegun : Image → Blocks → Source → Type 0
MayBeBegun f c source.None = ⊤
MayBeBegun f c (source.Zero list) = ⊤
MayBeBegun f c (source.Array a) = MayBeAsked f c a.now

-- what a source has left says of each key to come what all its entries say, in order and from lo on
pub record IsUpTo (f : Image) (pool : List PoolEntry) (parents : Parents) (v : ℕ)
    (lo last : List ℕ) (s : Source) (position : SourcePosition) : Type 0 where
  pub same : (key : List ℕ) → IsTrue (is_to_come lo last key)
      → find (is_seen_at parents key v) (left_at_source f pool s position)
      ≡ find (is_seen_at parents key v) (content_of f pool s)
  pub ordered : IsTrue (is_ascending (left_at_source f pool s position))
  pub from : IsTrue (list_all (is_from lo) (left_at_source f pool s position))

-- the first entry that a source has left is of no key to come
abbrev pub IsSpent : List ℕ → Option Entry → Type 0
IsSpent last None = ⊥
IsSpent last (Some e) = is_after last e.key ≡ false

-- how many steps a source may have to go
abbrev pub steps_left : List PoolEntry → Source → SourcePosition → ℕ
steps_left pool source.None position = 0
steps_left pool (source.Zero list) position =
    length (entries_held pool list.now) - position.item
steps_left pool (source.Array a) position =
    if position.there then 1 + places_ahead position.place else 0

-- how many blocks a source has still to read at most
abbrev pub reads_left : Source → SourcePosition → ℕ
reads_left source.None position = 0
reads_left (source.Zero list) position = 0
reads_left (source.Array a) position =
    if position.there
    then blocks_ahead position.scratch a.now.id (length (blocks_of a.now.extents)) position.place
    else 0

-- how often a search for a key reads an array of fewer than 2^n blocks at most: none is made for the empty key
abbrev pub reads_to_seek : List ℕ → ℕ → ℕ
reads_to_seek [] n = 0
reads_to_seek (b ∷ lo) n = n + 4

-- how many blocks a source reads at most until it has none left, where a search reads so many
abbrev pub reads_of_source : ℕ → Source → ℕ
reads_of_source search source.None = 0
reads_of_source search (source.Zero list) = 0
reads_of_source search (source.Array a) = search + length (blocks_of a.now.extents)
