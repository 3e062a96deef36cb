-- The pairs of a version in a range, as look-ups through level 0 and the levels find them.
use Rattle.std.specs.Prelude.{◌≡◌, ◌≤◌, ℕ, Bool, true, nat_lt, List, [], ◌∷◌, ◌++◌, length, map, take, Option, None, Some, option_and_then, unwrap_or}
use Rattle.strat_arena.specs.declared.pool.PoolEntry.{PoolEntry}
use Rattle.strat_base.specs.Entries.{Entry}
use Rattle.strat_base.specs.Tree.{Parents}
use Rattle.strat_base.specs.declared.descriptors.ArrayDesc.{ArrayDesc}
use Rattle.def_crash.specs.Image.{Image}
use Rattle.def_bytes.specs.Arrays.{blocks_of, entries_on}
use Rattle.strat_level.specs.Memtable.{ItemList, entries_held}
use Rattle.strat_model.specs.Kept.{IsMap}
use Rattle.strat_model.specs.Pairs.{Pairs, value_of}
use Rattle.def_state.specs.LookUp.{first_live}
use Rattle.strat_cursor.specs.Looking.{arrays_asked, arrays_there}
use Rattle.strat_cursor.specs.declared.view.Picked.{Picked}
use Rattle.strat_cursor.specs.declared.view.Picked.TheVariants as picked

-- all arrays of a view, the shallowest level's first
abbrev pub arrays_in_view : Picked → List ArrayDesc
arrays_in_view (picked.Live levels) = arrays_there levels.now
arrays_in_view (picked.Pinned arrays) = arrays.now

-- the arrays that are asked at a version, of each level one at most, the shallowest level's first
abbrev pub arrays_picked : Parents → Picked → ℕ → List ArrayDesc
arrays_picked parents (picked.Live levels) v = arrays_asked parents levels.now v
arrays_picked parents (picked.Pinned arrays) v = arrays.now

-- what a view has of a sealed level 0, in a list
abbrev pub sealed_held : List PoolEntry → Option ItemList → List (List Entry)
sealed_held pool None = []
sealed_held pool (Some list) = entries_held pool list ∷ []

-- what an array holds in an image, or nothing where one of its blocks is no block of entries
abbrev pub content_on : Image → ArrayDesc → List Entry
content_on f a = unwrap_or (entries_on f (blocks_of a.extents)) []

-- the entry of a key that is found at a version in these lists of level 0, the newest first, and then
-- in these arrays, the shallowest level's first
abbrev pub seen_in : Image → Parents → List (List Entry) → List ArrayDesc → ℕ → List ℕ
    → Option Entry
seen_in f parents zeros arrays v key =
    first_live parents (zeros ++ map (content_on f) arrays) v key

-- these pairs are the map that look-ups through these lists and arrays find at a version
pub record IsMapSeen (f : Image) (parents : Parents) (zeros : List (List Entry))
    (arrays : List ArrayDesc) (v : ℕ) (m : Pairs) : Type 0 where
  pub ordered : IsMap m
  pub each : (key : List ℕ)
      → value_of m key ≡ option_and_then (λ e. e.value) (seen_in f parents zeros arrays v key)

-- a page of so many pairs has at most its limit, and just as many where others are said to follow
abbrev pub FillsPage : ℕ → ℕ → Bool → Type 0
FillsPage limit n more = (n ≤ limit) × (more ≡ true → n ≡ limit)

-- the first pairs of a list were told, at most so many, and whether others follow
pub record IsPageOf (pairs : Pairs) (limit : ℕ) (told : Pairs) (more : Bool) : Type 0 where
  pub pairs_are : told ≡ take limit pairs
  pub more_is : more ≡ nat_lt limit (length pairs)
