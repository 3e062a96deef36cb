-- When a view of a store's pairs can be read, and what a reading of a page leaves.
use Rattle.std.specs.Prelude.{◌≤◌, ℕ, Bool, List, ◌∷◌, length, Option, IfSome, option_map, IsTrue}
use Rattle.strat_array.specs.Kept.{Blocks}
use Rattle.strat_base.specs.declared.descriptors.ArrayDesc.{ArrayDesc}
use Rattle.strat_base.specs.Entries.{Entry}
use Rattle.def_crash.specs.Image.{Image}
use Rattle.strat_level.specs.Memtable.{ItemList, entries_held, ListStands}
use Rattle.strat_model.specs.Pairs.{Pairs, range}
use Rattle.def_meaning.specs.TableOver.{are_known}
use Rattle.strat_cursor.specs.Looking.{MayBeFound, AreInOrder, HaveOwnIds, AreCachedFrom}
use Rattle.strat_cursor.specs.Ranges.{arrays_in_view, arrays_picked, sealed_held, IsMapSeen, IsPageOf}
use Rattle.strat_cursor.specs.declared.view.View.{View}

-- the sealed level 0 of a view, if it has one
abbrev pub sealed_in : View → Option ItemList
sealed_in view = option_map (λ z. z.now) view.sealed

-- the lists of level 0 that a view reads, the newest first
abbrev pub zeros_in : View → List (List Entry)
zeros_in view =
    entries_held view.pool.now view.zero.now ∷ sealed_held view.pool.now (sealed_in view)

-- the arrays of a view that are read at a version
abbrev pub arrays_read : View → ℕ → List ArrayDesc
arrays_read view v = arrays_picked view.tree.now.parents view.levels v

-- a view can be read: its lists of level 0 stand in the pool, at versions of the tree, and each of its
-- arrays may be read, of each level one at most
pub record ViewStands (view : View) : Type 0 where
  pub zero : ListStands view.pool.now view.zero.now
  pub known : IsTrue (are_known view.tree.now.parents (entries_held view.pool.now view.zero.now))
  pub sealed : IfSome (sealed_in view) (λ z. ListStands view.pool.now z
      × IsTrue (are_known view.tree.now.parents (entries_held view.pool.now z)))
  pub arrays : MayBeFound (arrays_in_view view.levels)
  pub few : (v : ℕ) → length (arrays_read view v) ≤ 22

-- in an image the arrays of a view that are read at a version have entries in order, and what is
-- cached of them is as it stands there
pub record IsReadable (f : Image) (next_array : ℕ) (view : View) (v : ℕ) (c : Blocks)
    : Type 0 where
  pub ordered : AreInOrder f (arrays_read view v)
  pub ids : HaveOwnIds (arrays_read view v)
  pub cached : AreCachedFrom f next_array (arrays_read view v) c

-- a page of the pairs in a range was told, as look-ups through a view find them at a version
abbrev pub TellsPage : Image → View → ℕ → List ℕ → List ℕ → ℕ → Pairs → Bool → Type 0
TellsPage f view v lo hi limit told more =
    (m : Pairs)
    → IsMapSeen f view.tree.now.parents (zeros_in view) (arrays_read view v) v m
    → IsPageOf (range m lo hi) limit told more
