-- What a store answers that finds its arrays in the bytes of a disk.
use Rattle.std.specs.Prelude.{ℕ, List, [], Option, unwrap_or, option_and_then}
use Rattle.strat_base.specs.Entries.{Entry}
use Rattle.strat_base.specs.Tree.{Parents}
use Rattle.def_crash.specs.Image.{Image}
use Rattle.strat_base.specs.declared.descriptors.ArrayDesc.{ArrayDesc}
use Rattle.strat_base.specs.declared.descriptors.LevelDesc.{LevelDesc}
use Rattle.def_state.specs.LookUp.{Reading, looked_up}
use Rattle.def_bytes.specs.Arrays.{blocks_of, entries_on}

-- levels as their descriptors and an image give them: an array shows what its blocks hold, and
-- nothing where one of them is no block
abbrev pub on_disk : Image → Reading LevelDesc ArrayDesc
on_disk c = record {
  horizon = λ level. level.horizon;
  arrays = λ level. level.arrays;
  tag = λ a. a.versions;
  shown = λ a key. unwrap_or (entries_on c (blocks_of a.extents)) [];
}

-- the value of a key at a version that these bytes have for a store with this tree, these lists of
-- level 0, the newest first, and the descriptors of these levels
abbrev pub asked : Image → Parents → List (List Entry) → List LevelDesc → ℕ → List ℕ
    → Option (List ℕ)
asked c parents zeros levels v key =
    option_and_then (λ e. e.value) (looked_up (on_disk c) parents zeros levels v key)
