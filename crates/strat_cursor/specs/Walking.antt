-- A walk over all pairs of a version, page by page.
use Rattle.std.specs.Prelude.{◌≡◌, ◌≤◌, ◌<◌, ℕ, Bool, true, false, List, [], ◌++◌, length, take, vec_capacity}
use Rattle.strat_array.specs.Kept.{Blocks}
use Rattle.strat_base.specs.declared.descriptors.ArrayDesc.{ArrayDesc}
use Rattle.def_crash.specs.Image.{Image}
use Rattle.strat_merge.specs.Bracket.{IsTournament}
use Rattle.strat_model.specs.Pairs.{Pairs}
use Rattle.strat_cursor.specs.Ahead.{range_after}
use Rattle.strat_cursor.specs.Contenders.{contenders}
use Rattle.strat_cursor.specs.Emitting.{AreSettled, AreUpTo, sum_over}
use Rattle.strat_cursor.specs.Looking.{HaveOwnIds}
use Rattle.strat_cursor.specs.Picking.{AreSourcesOf}
use Rattle.strat_cursor.specs.Ranges.{IsMapSeen}
use Rattle.strat_cursor.specs.Sources.{reads_left, steps_left}
use Rattle.strat_cursor.specs.Views.{arrays_read, zeros_in}
use Rattle.strat_cursor.specs.declared.sources.Source.{Source}
use Rattle.strat_cursor.specs.declared.walk.Walk.{Walk}

-- the sources of a walk
abbrev pub sources_walked : Walk → List Source
sources_walked w = take w.sources.count w.sources.places

-- the arrays that a walk reads
abbrev pub arrays_walked : Walk → List ArrayDesc
arrays_walked w = arrays_read w.view.now w.version

-- a walk can go on: its sources are those of its view, each at an entry at hand, and their tournament is played
pub record IsWalk (w : Walk) : Type 0 where
  pub known : w.version < length w.view.now.tree.now.parents
  pub count : (w.sources.count ≤ 24) × (length w.sources.places ≡ 24)
  pub sources : AreSourcesOf w.view.now w.version (sources_walked w)
  pub settled : AreSettled w.view.now.tree.now.parents w.version w.view.now.pool.now
      (sources_walked w) w.positions.items
  pub won : IsTournament (contenders w.view.now.pool.now (sources_walked w) w.positions.items)
      w.winners.items
  pub room : 255 ≤ vec_capacity w.last

-- how many steps a walk may have to go
abbrev pub steps_walked : Walk → ℕ
steps_walked w = sum_over (steps_left w.view.now.pool.now) (sources_walked w) w.positions.items

-- how many blocks a walk has still to read at most
abbrev pub reads_walked : Walk → ℕ
reads_walked w = sum_over reads_left (sources_walked w) w.positions.items

-- in an image a walk has these pairs left: of the map that look-ups find at its version those after the last one told
pub record HasPairsLeft (f : Image) (c : Blocks) (w : Walk) (left : Pairs) : Type 0 where
  pub map : Pairs
  pub own : HaveOwnIds (arrays_walked w)
  pub seen : IsMapSeen f w.view.now.tree.now.parents (zeros_in w.view.now) (arrays_walked w)
      w.version map
  pub up : AreUpTo f c w.view.now.pool.now w.view.now.tree.now.parents w.version [] w.last.items
      (sources_walked w) w.positions.items
  pub left_is : left ≡ range_after map [] [] w.last.items

-- of what a walk had left these pairs were told: all, or it has the others left now
abbrev pub GivesPage : Image → Blocks → Walk → Pairs → Pairs → Bool → Type 0
GivesPage f c w left told false = told ≡ left
GivesPage f c w left told true = (rest : Pairs) × (left ≡ told ++ rest) × HasPairsLeft f c w rest
