-- The sources of a view at a version: level 0, the sealed one, and the array of each level.
use Rattle.std.specs.Prelude.{◌≡◌, ◌≤◌, ℕ, ◌+◌, ◌-◌, ◌==◌, if◌then◌else◌, List, [], length, map, flat_map, Contains, Option, None, Some, option_and_then, slice_get}
use Rattle.strat_arena.specs.declared.pool.PoolEntry.{PoolEntry}
use Rattle.std.specs.Option.{option_to_list}
use Rattle.strat_base.specs.Entries.{Entry}
use Rattle.strat_base.specs.Tree.{Parents}
use Rattle.strat_base.specs.declared.descriptors.ArrayDesc.{ArrayDesc}
use Rattle.def_crash.specs.Image.{Image}
use Rattle.strat_level.specs.Levels.{desc_for, level_numbered}
use Rattle.strat_level.specs.Memtable.{ItemList, entries_held}
use Rattle.def_state.specs.LookUp.{first_live}
use Rattle.strat_cursor.specs.Ranges.{content_on, seen_in}
use Rattle.strat_cursor.specs.Sources.{MayBeRead, arrays_at, content_of}
use Rattle.strat_cursor.specs.Views.{arrays_read, sealed_in, zeros_in}
use Rattle.strat_cursor.specs.declared.sources.Source.{Source}
use Rattle.strat_cursor.specs.declared.view.Picked.{Picked}
use Rattle.strat_cursor.specs.declared.view.Picked.TheVariants as picked
use Rattle.strat_cursor.specs.declared.view.View.{View}

-- the array that is asked at a version in the level of a number, counted from 0, or of a cursor's arrays
-- the one of that number
abbrev pub array_picked : Parents → Picked → ℕ → ℕ → Option ArrayDesc
array_picked parents (picked.Live levels) v n =
    option_and_then (λ level. desc_for parents level v) (level_numbered levels.now (n + 1))
array_picked parents (picked.Pinned arrays) v n = slice_get arrays.now n

-- a store has 22 levels, and a cursor holds on to no more arrays
abbrev pub HaveNumbers : Picked → Type 0
HaveNumbers (picked.Live levels) = length levels.now ≡ 22
HaveNumbers (picked.Pinned arrays) = length arrays.now ≤ 22

-- what an array has in an image, where there is one
abbrev pub content_if : Image → Option ArrayDesc → List Entry
content_if f None = []
content_if f (Some a) = content_on f a

-- what a sealed level 0 has, where there is one
abbrev pub sealed_if : List PoolEntry → Option ItemList → List Entry
sealed_if pool None = []
sealed_if pool (Some list) = entries_held pool list

-- what the source of a number has: the first is level 0, the second the sealed one
abbrev pub content_at : Image → View → ℕ → ℕ → List Entry
content_at f view v i =
    if i == 0 then entries_held view.pool.now view.zero.now
    else (if i == 1 then sealed_if view.pool.now (sealed_in view)
    else content_if f (array_picked view.tree.now.parents view.levels v (i - 2)))

-- the array of the source of a number, if it has one
abbrev pub arrays_numbered : View → ℕ → ℕ → List ArrayDesc
arrays_numbered view v i =
    if i == 0 then []
    else (if i == 1 then []
    else option_to_list (array_picked view.tree.now.parents view.levels v (i - 2)))

-- a source of a view can be read, and its array is one of those that are read at a version
pub record IsOfView (view : View) (v : ℕ) (s : Source) : Type 0 where
  pub read : MayBeRead view.pool.now s
  pub there : (a : ArrayDesc) → Contains (arrays_at s) a → Contains (arrays_read view v) a

-- these are the sources of a view at a version, as many as there is room for at most: each is of the view, they
-- have the arrays that are read, and look-ups through them find what look-ups through the view do
pub record AreSourcesOf (view : View) (v : ℕ) (sources : List Source) : Type 0 where
  pub few : length sources ≤ 24
  pub each : (i : ℕ) (s : Source) → slice_get sources i ≡ Some s → IsOfView view v s
  pub arrays : flat_map arrays_at sources ≡ arrays_read view v
  pub seen : (f : Image) (key : List ℕ)
      → first_live view.tree.now.parents (map (content_of f view.pool.now) sources) v key
      ≡ seen_in f view.tree.now.parents (zeros_in view) (arrays_read view v) v key
