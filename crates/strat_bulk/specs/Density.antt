-- Arrays of which a version has its share.
use Rattle.std.specs.Prelude.{◌≡◌, ◌≤◌, ◌*◌, ℕ, List, length, Contains, Some}
use Rattle.strat_base.specs.Entries.{Entry}
use Rattle.strat_base.specs.Tree.{Parents}
use Rattle.strat_base.specs.declared.descriptors.ArrayDesc.{ArrayDesc}
use Rattle.def_bytes.specs.Arrays.{blocks_of, entries_on}
use Rattle.def_crash.specs.Image.{Image}
use Rattle.def_state.specs.Live.{live}

-- in an image each of these arrays has entries, at most three for each of them that is live at a version
pub record AreThirdLive (f : Image) (parents : Parents) (v : ℕ) (arrays : List ArrayDesc)
    : Type 0 where
  pub each : (a : ArrayDesc) → Contains arrays a
      → (entries : List Entry) × (entries_on f (blocks_of a.extents) ≡ Some entries)
      × (length entries ≤ 3 * length (live parents entries v))
