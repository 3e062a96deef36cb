-- Arrays in the blocks of an image.
use Rattle.std.specs.Prelude.{ℕ, ◌*◌, List, [], ◌∷◌, ◌++◌, flat_map, Option, Some, option_map, option_and_then}
use Rattle.std.specs.List.{range_with_len}
use Rattle.strat_base.specs.declared.limits.TheConstants.{BLOCK}
use Rattle.strat_base.specs.declared.descriptors.Extent.{Extent}
use Rattle.strat_base.specs.Entries.{Entry}
use Rattle.def_crash.specs.Image.{Image, window}
use Rattle.def_bytes.specs.Block.{block_in}

-- what f makes of each item, or nothing where it makes nothing of one
abbrev pub all_some : {A B : Type 0} → (A → Option B) → List A → Option (List B)
all_some f [] = Some []
all_some f (x ∷ xs) = option_and_then (λ y. option_map (λ ys. y ∷ ys) (all_some f xs)) (f x)

-- the blocks of extents, in their order
abbrev pub blocks_of : List Extent → List ℕ
blocks_of extents = flat_map (λ x. range_with_len x.start x.len) extents

-- the entries of an image's block, where it is a block of entries
abbrev pub block_on : Image → ℕ → Option (List Entry)
block_on c b = block_in (window c (BLOCK * b) BLOCK)

-- the entries that blocks of an image hold, where each is a block
unfoldable pub entries_on : Image → List ℕ → Option (List Entry)
entries_on c [] = Some []
entries_on c (b ∷ blocks) =
    option_and_then (λ entries. option_map (λ rest. entries ++ rest) (entries_on c blocks))
    (block_on c b)
