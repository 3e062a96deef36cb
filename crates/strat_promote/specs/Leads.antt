-- The leads of an array, as they are read from its blocks one after another.
use Rattle.std.specs.Prelude.{ℕ, Bool, true, if◌then◌else◌, List, [], ◌∷◌, ◌++◌, Option, None, Some}
use Rattle.std.specs.Option.{option_map_or}
use Rattle.std.specs.Ordering.{is_lt}
use Rattle.strat_base.specs.Order.{entry_cmp}
use Rattle.strat_base.specs.Entries.{Entry, lead_entries}
use Rattle.strat_base.specs.declared.descriptors.ArrayDesc.{ArrayDesc}
use Rattle.def_crash.specs.Image.{Image}
use Rattle.def_bytes.specs.Arrays.{block_on, blocks_of}

-- the first of some entries comes after one, if there is one
abbrev pub comes_after : Option Entry → List Entry → Bool
comes_after None entries = true
comes_after (Some e) [] = true
comes_after (Some e) (f ∷ entries) = is_lt (entry_cmp e.key e.version f.key f.version)

-- the last of some entries, or what was last before them
abbrev pub last_of : Option Entry → List Entry → Option Entry
last_of before [] = before
last_of before (e ∷ entries) = last_of (Some e) entries

-- the entries of blocks, up to the first that holds none or whose entries do not come after those before it
unfoldable pub entries_after : Image → Option Entry → List ℕ → List Entry
entries_after c before [] = []
entries_after c before (b ∷ blocks) =
    option_map_or
    (λ entries.
    if comes_after before entries
    then entries ++ entries_after c (last_of before entries) blocks else [])
    (block_on c b) []

-- that block, if there is one
unfoldable pub misfit_after : Image → Option Entry → List ℕ → Option ℕ
misfit_after c before [] = None
misfit_after c before (b ∷ blocks) =
    option_map_or
    (λ entries.
    if comes_after before entries
    then misfit_after c (last_of before entries) blocks else Some b)
    (block_on c b) (Some b)

-- the leads of an array in an image, as far as its blocks are in order
abbrev pub leads_in : Image → ArrayDesc → List Entry
leads_in c a = lead_entries a.versions (entries_after c None (blocks_of a.extents))

-- the first of its blocks that is not
abbrev pub misfit_in : Image → ArrayDesc → Option ℕ
misfit_in c a = misfit_after c None (blocks_of a.extents)
