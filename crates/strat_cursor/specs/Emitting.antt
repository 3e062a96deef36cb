-- A turn of a scan: the least key is handled, and its source goes on.
use Rattle.std.specs.Prelude.{◌≡◌, ◌≤◌, ◌<◌, ◌⊎◌, ℕ, ◌+◌, Bool, true, false, List, [], ◌∷◌, ◌++◌, length, Option, None, Some, IsSome, slice_get, IsTrue}
use Rattle.std.specs.Ordering.{is_lt}
use Rattle.strat_arena.specs.declared.pool.PoolEntry.{PoolEntry}
use Rattle.strat_array.specs.Kept.{Blocks}
use Rattle.strat_base.specs.Entries.{Entry, is_ascending}
use Rattle.strat_base.specs.Order.{key_cmp}
use Rattle.strat_base.specs.Tree.{Parents}
use Rattle.def_crash.specs.Image.{Image}
use Rattle.strat_model.specs.Pairs.{Pairs}
use Rattle.strat_cursor.specs.Ahead.{is_after}
use Rattle.strat_cursor.specs.Sources.{MayBeRead, IsSettledAt, IsUpTo, StandsIn, content_of}
use Rattle.strat_cursor.specs.declared.scan_buffers.SourcePosition.{SourcePosition}
use Rattle.strat_cursor.specs.declared.sources.Source.{Source}

-- a key is below hi, where that is not empty
abbrev pub is_under : List ℕ → List ℕ → Bool
is_under [] key = true
is_under (b ∷ hi) key = is_lt (key_cmp key (b ∷ hi))

-- the pair of a value is added, where there is room for it, and none where the key is gone
abbrev pub AddsValue : List ℕ → Option (List ℕ) → ℕ → Pairs → Pairs → Type 0
AddsValue key None limit old new = new ≡ old
AddsValue key (Some value) limit old new =
    (length old < limit) × (new ≡ old ++ (key, value) ∷ [])

-- there is a pair more than may be told, or it was added
abbrev pub TellsValue : Entry → ℕ → Pairs → Pairs → Bool → Type 0
TellsValue e limit old new false = AddsValue e.key e.value limit old new
TellsValue e limit old new true = IsSome e.value × (limit ≤ length old) × (new ≡ old)

-- the least key of all is handled: it was before, or its value is told and it is the last one now, or
-- the scan ends, with the answer whether there are other pairs
abbrev pub HandlesKey
    : Entry → List ℕ → ℕ → List ℕ → List ℕ → Pairs → Pairs → Option Bool → Type 0
HandlesKey e hi limit last next old new None =
    ((is_after last e.key ≡ false) × (next ≡ last) × (new ≡ old))
    ⊎ (IsTrue (is_after last e.key) × IsTrue (is_under hi e.key) × (next ≡ e.key)
    × AddsValue e.key e.value limit old new)
HandlesKey e hi limit last next old new (Some false) =
    IsTrue (is_after last e.key) × (is_under hi e.key ≡ false) × (new ≡ old)
HandlesKey e hi limit last next old new (Some true) =
    IsTrue (is_after last e.key) × IsTrue (is_under hi e.key)
    × IsSome e.value × (limit ≤ length old) × (new ≡ old) × (next ≡ last)

-- each source can be read, and stands at an entry that is at hand and at a version or an ancestor of it
pub record AreSettled (parents : Parents) (v : ℕ) (pool : List PoolEntry) (sources : List Source)
    (positions : List SourcePosition) : Type 0 where
  pub same : length positions ≡ length sources
  pub each : (i : ℕ) (s : Source) (d : SourcePosition) → slice_get sources i ≡ Some s
      → slice_get positions i ≡ Some d → MayBeRead pool s × IsSettledAt parents v pool s d

-- in an image each source's entries are in order, what it has left says of each key to come what all say,
-- and its blocks are kept as they stand there
pub record AreUpTo (f : Image) (c : Blocks) (pool : List PoolEntry) (parents : Parents) (v : ℕ)
    (lo last : List ℕ) (sources : List Source) (positions : List SourcePosition) : Type 0 where
  pub ordered : (i : ℕ) (s : Source) → slice_get sources i ≡ Some s
      → IsTrue (is_ascending (content_of f pool s))
  pub each : (i : ℕ) (s : Source) (d : SourcePosition) → slice_get sources i ≡ Some s
      → slice_get positions i ≡ Some d
      → IsUpTo f pool parents v lo last s d × StandsIn f c s d.scratch

-- keys after one are after another
abbrev pub IsLater : List ℕ → List ℕ → Type 0
IsLater prev last = (key : List ℕ) → IsTrue (is_after last key) → IsTrue (is_after prev key)

-- of each source and its position a number, and the sum of these
abbrev pub sum_over : (Source → SourcePosition → ℕ) → List Source → List SourcePosition → ℕ
sum_over h [] positions = 0
sum_over h (s ∷ sources) [] = 0
sum_over h (s ∷ sources) (d ∷ positions) = h s d + sum_over h sources positions
