-- Extents of an array, as block numbers allow them.
use Rattle.std.specs.Prelude.{◌≡◌, ◌≤◌, ◌<◌, ℕ, ◌+◌, ◌==◌, List, length, slice_index_or, Option, Some, None, IsTrue}
use Rattle.std.specs.List.{list_any, All}
use Rattle.strat_base.specs.declared.descriptors.Extent.{Extent}
use Rattle.def_crash.specs.Image.{Image}
use Rattle.def_bytes.specs.Arrays.{block_on, blocks_of}

-- each extent ends at 4,294,967,295 at most
abbrev pub EndWithin : List Extent → Type 0
EndWithin extents = All (λ x. x.start + x.len ≤ 4294967295) extents

-- each extent ends at 4,294,967,295 at most, and there are no more blocks
pub record AreWithin (extents : List Extent) : Type 0 where
  pub each : (i : ℕ) (d : Extent) → i < length extents
      → (slice_index_or extents i d).start + (slice_index_or extents i d).len ≤ 4294967295
  pub few : length (blocks_of extents) ≤ 4294967295

-- one of these blocks is no block of entries where a content is exposed
abbrev pub IsNoBlock : Option Image → List ℕ → ℕ → Type 0
IsNoBlock content blocks b =
    IsTrue (list_any (λ other. other == b) blocks)
    × ((f : Image) → content ≡ Some f → block_on f b ≡ None)
