-- What a check finds of a disk.
use Rattle.std.specs.Prelude.{ℕ, Bool, List, flat_map, find, Option, Some, None, Ok, unwrap_or, is_none}
use Rattle.def_crash.specs.Image.{Image}
use Rattle.def_bytes.specs.Arrays.{block_on, blocks_of}
use Rattle.def_bytes.specs.Damage.{Read, and_then, found_or}
use Rattle.def_bytes.specs.Manifest.{Manifest}
use Rattle.def_recovery.specs.Head.{Head, descriptors}
use Rattle.def_recovery.specs.Opening.{recover, state_of}
use Rattle.def_state.specs.Breach.{Breach, breaches}
use Rattle.def_state.specs.State.{State}

-- a block of an image is no block of entries
abbrev pub is_unread : Image → ℕ → Bool
is_unread c b = is_none (block_on c b)

-- the blocks of all arrays of a manifest, in its order
abbrev pub listed_blocks : Manifest → List ℕ
listed_blocks m = flat_map (λ a. blocks_of a.extents) (descriptors m)

-- the state of a head, or the first block of its arrays that is no block of entries
abbrev pub read_state : Image → Head → Read State
read_state c h =
    found_or (unwrap_or (find (is_unread c) (listed_blocks h.manifest)) 0) (state_of c h)

-- the rules that the state of a head breaks, if there is one
abbrev pub check_head : Image → Option Head → Read (Option (List Breach))
check_head c None = Ok None
check_head c (Some h) = and_then (read_state c h) (λ s. Ok (Some (breaches s)))

-- what a check finds: nothing where the disk is no store, what a store's state breaks in the order in
-- which rules are tried, or the damaged block
abbrev pub checked : Image → Read (Option (List Breach))
checked c = and_then (recover c) (check_head c)
