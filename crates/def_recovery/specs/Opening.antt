-- What recovery finds in the bytes of a disk, and the state that they read as.
use Rattle.std.specs.Prelude.{ℕ, suc, ◌+◌, ◌*◌, nat_lt, nat_le, ◌&&◌, Bool, if◌then◌else◌, List, [], ◌∷◌, ◌++◌, map, flat_map, sum_by, Option, Some, None, Ok, Err, option_and_then}
use Rattle.std.specs.List.{list_all}
use Rattle.def_crash.specs.Image.{Image}
use Rattle.strat_base.specs.Tree.{Parents}
use Rattle.strat_base.specs.Marks.{Marks}
use Rattle.def_state.specs.Level.{is_distinct}
use Rattle.def_bytes.specs.Manifest.{Manifest, all_pass, versions_in}
use Rattle.strat_base.specs.declared.descriptors.ArrayDesc.{ArrayDesc}
use Rattle.strat_base.specs.declared.descriptors.LevelDesc.{LevelDesc}
use Rattle.def_bytes.specs.Arrays.{blocks_of}
use Rattle.def_recovery.specs.Opened.{parents_in, state_on}
use Rattle.def_state.specs.State.{State, tree_after, marks_after}
use Rattle.def_state.specs.Sound.{is_accepted}
use Rattle.def_bytes.specs.SuperBlock.{Super, newest_in}
use Rattle.strat_base.specs.Change.{Change}
use Rattle.def_bytes.specs.Damage.{Read, and_then, passed_or, put_first}
use Rattle.def_bytes.specs.Chained.{Chained, manifest_at}
use Rattle.def_bytes.specs.Records.{Logged, journal_in_two}
use Rattle.def_recovery.specs.Head.{Head, descriptors}
use Rattle.def_bytes.specs.Layout.{first_free}

-- how many blocks an array has
abbrev pub array_blocks : ArrayDesc → ℕ
array_blocks a = sum_by (λ x. x.len) a.extents

-- the blocks of the arrays and of the manifest lie after the journal, and none has two uses
abbrev pub has_own_blocks : Super → List ℕ → Manifest → Bool
has_own_blocks sb chain m =
    let blocks = chain ++ flat_map (λ a. blocks_of a.extents) (descriptors m) in
    is_distinct blocks && list_all (λ b. nat_le (first_free sb.mem) b) blocks

-- no two arrays have one number
abbrev pub has_own_ids : Manifest → Bool
has_own_ids m = is_distinct (map (λ a. a.id) (descriptors m))

-- the tags of a level do not meet, and hold versions below its horizon
abbrev pub has_own_versions : LevelDesc → Bool
has_own_versions level =
    let versions = flat_map (λ a. a.versions) level.arrays in
    is_distinct versions && list_all (λ v. nat_lt v level.horizon) versions

-- at least half of an array's entries are leads, and it has no more blocks than entries
abbrev pub is_filled : ArrayDesc → Bool
is_filled a = nat_le a.entries (2 * a.leads) && nat_le (array_blocks a) a.entries

-- for each change there are at most one publication, 16384 new arrays, and 2^25 entries written and as many compacted
abbrev pub has_few_publications : Super → Manifest → Bool
has_few_publications sb m =
    nat_le sb.generation (m.changes + 1) && nat_le m.next_array (16384 * m.changes + 1)
    && nat_le m.written (33554432 * m.changes) && nat_le m.compacted (33554432 * m.changes)

-- a manifest in a chain of blocks is one that a store with this superblock may have
abbrev pub belongs : Super → Chained → Bool
belongs sb found = all_pass (
    has_own_blocks sb found.blocks found.manifest
    ∷ has_own_ids found.manifest
    ∷ list_all has_own_versions found.manifest.levels
    ∷ nat_le (versions_in found.manifest) sb.versions_max
    ∷ nat_le found.manifest.changes sb.changes_max
    ∷ nat_le (sum_by (λ a. a.leads) (descriptors found.manifest)) found.manifest.updates
    ∷ list_all is_filled (descriptors found.manifest)
    ∷ has_few_publications sb found.manifest
    ∷ [])

-- the manifest of a superblock, or the block that is damaged
abbrev pub recover_manifest : Image → Super → Read Manifest
recover_manifest c sb =
    and_then (manifest_at sb.format c sb.manifest sb.length)
    (λ found. passed_or sb.manifest (belongs sb found) found.manifest)

-- the changes of these records, each accepted in its turn, or the block of the first that is not
abbrev pub accepted_in : ℕ → ℕ → Parents → Marks → ℕ → List Logged → Read (List Change)
accepted_in changes_max versions_max parents marks changes [] = Ok []
accepted_in changes_max versions_max parents marks changes (l ∷ logged) =
    if is_accepted changes_max versions_max parents marks changes l.change
    then put_first l.change
    (accepted_in changes_max versions_max (tree_after parents l.change)
    (marks_after marks l.change) (suc changes) logged)
    else Err l.block

-- the journal of a superblock and a manifest, or the block that is damaged
abbrev pub recover_journal : Image → Super → Manifest → Read (List Change)
recover_journal c sb m =
    and_then (journal_in_two c sb.mem sb.region)
    (accepted_in sb.changes_max sb.versions_max (parents_in m) m.marks m.changes)

-- the head of a store with this superblock, or the block that is damaged
abbrev pub recover_head : Image → Super → Read Head
recover_head c sb =
    and_then (recover_manifest c sb)
    (λ m. and_then (recover_journal c sb m)
    (λ journal. Ok (record { sb = sb; manifest = m; journal = journal })))

-- the head of a store, where there is one
abbrev pub recover_slot : Image → Option (ℕ × Super) → Read (Option Head)
recover_slot c None = Ok None
recover_slot c (Some slot) = and_then (recover_head c slot.1) (λ h. Ok (Some h))

-- what recovery finds: nothing where the disk is no store, the store's head, or the damaged block
abbrev pub recover : Image → Read (Option Head)
recover c = and_then (newest_in c) (recover_slot c)

-- the head that was found, if one was
abbrev pub opened : Read (Option Head) → Option Head
opened (Ok found) = found
opened (Err block) = None

-- the state of a head and its arrays, where the blocks of the arrays are blocks
abbrev pub state_of : Image → Head → Option State
state_of c h = state_on c h.sb.mem h.sb.changes_max h.sb.versions_max h.manifest h.journal

-- the state that the bytes of a disk read as
abbrev pub reads_as : Image → Option State
reads_as c = option_and_then (state_of c) (opened (recover c))
