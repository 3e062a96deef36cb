-- The manifest: what a store keeps of itself beside its journal, and its bytes.
use Rattle.std.specs.Prelude.{◌≡◌, ℕ, zero, suc, ◌+◌, ◌-◌, ◌^◌, ◌==◌, nat_lt, nat_le, ◌&&◌, ◌||◌, not, Bool, true, false, if◌then◌else◌, replicate, List, [], ◌∷◌, ◌++◌, length, drop, map, flat_map, bytes_eq, slice_index, Option, Some, None, IsTrue, option_and_then}
use Rattle.std.specs.List.{list_all}
use Rattle.strat_base.specs.declared.limits.TheConstants.{LEVELS, VERSIONS_MAX}
use Rattle.strat_base.specs.Numbers.{be, number}
use Rattle.strat_base.specs.Marks.{Marks, are_pruned}
use Rattle.strat_base.specs.declared.descriptors.Extent.{Extent}
use Rattle.strat_base.specs.declared.descriptors.ArrayDesc.{ArrayDesc}
use Rattle.strat_base.specs.declared.descriptors.LevelDesc.{LevelDesc}

-- a manifest, with the parent of each version from 1 on, and a mark for each from 0 on; compacted
-- counts the entries that merges of all levels wrote, written all others
pub record Manifest : Type 0 where
  pub changes : ℕ
  pub updates : ℕ
  pub written : ℕ
  pub compacted : ℕ
  pub next_array : ℕ
  pub parents : List ℕ
  pub marks : Marks
  pub levels : List LevelDesc

-- how many versions a manifest has
abbrev pub versions_in : Manifest → ℕ
versions_in m = suc (length m.parents)

-- numbers ascend strictly
abbrev pub is_rising : List ℕ → Bool
is_rising [] = true
is_rising (x ∷ []) = true
is_rising (x ∷ y ∷ rest) = nat_lt x y && is_rising (y ∷ rest)

-- an extent has a block, and ends at a block number
abbrev pub is_lawful_extent : Extent → Bool
is_lawful_extent x = nat_le 1 x.len && nat_lt (x.start + x.len) (2 ^ 32)

-- no extent begins where the one before it ends
abbrev pub are_apart : List Extent → Bool
are_apart [] = true
are_apart (x ∷ []) = true
are_apart (x ∷ y ∷ rest) = not (x.start + x.len == y.start) && are_apart (y ∷ rest)

-- a list may be counted in four bytes, and has an item
abbrev pub is_counted : {A : Type 0} → List A → Bool
is_counted xs = nat_le 1 (length xs) && nat_lt (length xs) (2 ^ 32)

-- each of these tests passes
unfoldable pub all_pass : List Bool → Bool
all_pass [] = true
all_pass (test ∷ tests) = test && all_pass tests

-- the descriptor of an array that is numbered below the next one
abbrev pub is_lawful_array : ℕ → ArrayDesc → Bool
is_lawful_array next_array a = all_pass (
    nat_le 1 a.id ∷ nat_lt a.id next_array
    ∷ nat_le 1 a.entries ∷ nat_lt a.entries (2 ^ 32) ∷ nat_le a.leads a.entries
    ∷ nat_le a.least a.entries
    ∷ is_counted a.extents ∷ list_all is_lawful_extent a.extents ∷ are_apart a.extents
    ∷ is_counted a.versions ∷ list_all (λ v. nat_lt v (2 ^ 32)) a.versions ∷ is_rising a.versions
    ∷ [])

-- the first version of a tag
abbrev pub first_version : ArrayDesc → ℕ
first_version a = slice_index a.versions 0

-- the descriptor of a level in a store of so many versions
abbrev pub is_lawful_level : ℕ → ℕ → LevelDesc → Bool
is_lawful_level versions next_array level = all_pass (
    nat_le 1 level.number ∷ nat_le level.number LEVELS ∷ nat_le 1 level.horizon
    ∷ nat_le level.horizon versions
    ∷ is_counted level.arrays ∷ list_all (is_lawful_array next_array) level.arrays
    ∷ is_rising (map first_version level.arrays) ∷ [])

-- each parent has a smaller number than its child
abbrev pub are_older : ℕ → List ℕ → Bool
are_older v [] = true
are_older v (parent ∷ parents) = nat_lt parent v && are_older (suc v) parents

-- a format has this manifest's fields: in format 1 compacted is 0 and no version is dropped
abbrev pub has_fields : ℕ → Manifest → Bool
has_fields format m =
    (format == 2) || ((format == 1) && (m.compacted == 0) && list_all not m.marks)

-- a manifest that has a spelling in a format
abbrev pub is_lawful_manifest : ℕ → Manifest → Bool
is_lawful_manifest format m = all_pass (
    nat_lt m.changes (2 ^ 32) ∷ nat_le m.updates m.changes ∷ nat_lt m.written (2 ^ 64)
    ∷ nat_le 1 m.next_array ∷ nat_lt m.next_array (2 ^ 64)
    ∷ nat_le (versions_in m) VERSIONS_MAX ∷ are_older 1 m.parents
    ∷ nat_le (length m.levels) LEVELS
    ∷ list_all (is_lawful_level (versions_in m) m.next_array) m.levels
    ∷ is_rising (map (λ level. level.number) m.levels)
    ∷ has_fields format m ∷ nat_lt m.compacted (2 ^ 64)
    ∷ are_pruned (None ∷ map (λ p. Some p) m.parents) m.marks ∷ [])

-- a list after its length in four bytes
abbrev pub list_bytes : {A : Type 0} → (A → List ℕ) → List A → List ℕ
list_bytes item_bytes xs = be 4 (length xs) ++ flat_map item_bytes xs

-- the bytes of an extent
abbrev pub extent_bytes : Extent → List ℕ
extent_bytes x = be 4 x.start ++ be 4 x.len

-- the bytes of an array's descriptor
abbrev pub array_bytes : ArrayDesc → List ℕ
array_bytes a =
    be 8 a.id ++ (be 4 a.entries ++ (be 4 a.leads ++ (be 4 a.least
    ++ (list_bytes extent_bytes a.extents ++ list_bytes (be 4) a.versions))))

-- the bytes of a level's descriptor
abbrev pub level_bytes : LevelDesc → List ℕ
level_bytes level = be 1 level.number ++ (be 4 level.horizon ++ list_bytes array_bytes level.arrays)

-- the manifest of a new store: no change, nothing written, array 1 the next, and one version
abbrev pub new_manifest : Manifest
new_manifest =
    record {
      changes = 0;
      updates = 0;
      written = 0;
      compacted = 0;
      next_array = 1;
      parents = [];
      marks = false ∷ [];
      levels = [];
    }

-- the byte of a mark
abbrev pub mark_bytes : Bool → List ℕ
mark_bytes mark = be 1 (if mark then 1 else 0)

-- bytes that stand in format 2 alone
abbrev pub only : ℕ → List ℕ → List ℕ
only format bytes = if format == 2 then bytes else []

-- the bytes of a manifest in a format
unfoldable pub manifest_bytes : ℕ → Manifest → List ℕ
manifest_bytes format m =
    be 4 m.changes ++ (be 4 m.updates ++ (be 8 m.written ++ (only format (be 8 m.compacted)
    ++ (be 8 m.next_array ++ (be 4 (versions_in m) ++ (flat_map (be 4) m.parents
    ++ (only format (flat_map mark_bytes m.marks)
    ++ (be 1 (length m.levels) ++ flat_map level_bytes m.levels))))))))

-- these bytes are the spelling of a manifest in a format
pub record SpellsManifest (format : ℕ) (bytes : List ℕ) (m : Manifest) : Type 0 where
  pub lawful : IsTrue (is_lawful_manifest format m)
  pub text : bytes ≡ manifest_bytes format m

-- a value read from the front of bytes, and the bytes after it
abbrev pub Parsed : Type 0 → Type 0
Parsed A = Option (A × List ℕ)

-- what is read after another value
abbrev pub next : {A B : Type 0} → Parsed A → (A → List ℕ → Parsed B) → Parsed B
next None behind = None
next (Some read) behind = behind read.0 read.1

-- a number in k bytes
unfoldable pub read_number : ℕ → List ℕ → Parsed ℕ
read_number k bytes = if nat_le k (length bytes) then Some (number k bytes, drop k bytes) else None

-- n items, one after the other
unfoldable pub read_items : {A : Type 0} → (List ℕ → Parsed A) → ℕ → List ℕ → Parsed (List A)
read_items read zero bytes = Some ([], bytes)
read_items read (suc n) bytes =
    next (read bytes) (λ x rest. next (read_items read n rest) (λ xs end. Some (x ∷ xs, end)))

-- as many items as four bytes in front of them say
abbrev pub read_list : {A : Type 0} → (List ℕ → Parsed A) → List ℕ → Parsed (List A)
read_list read bytes = next (read_number 4 bytes) (λ n rest. read_items read n rest)

-- an extent, read from the front of bytes
unfoldable pub read_extent : List ℕ → Parsed Extent
read_extent bytes =
    next (read_number 4 bytes) (λ start b.
    next (read_number 4 b) (λ len c.
    Some (record { start = start; len = len }, c)))

-- an array's descriptor, read from the front of bytes
unfoldable pub read_array : List ℕ → Parsed ArrayDesc
read_array bytes =
    next (read_number 8 bytes) (λ id b.
    next (read_number 4 b) (λ entries c.
    next (read_number 4 c) (λ leads d.
    next (read_number 4 d) (λ least e.
    next (read_list read_extent e) (λ extents f.
    next (read_list (read_number 4) f) (λ versions g.
    Some (
      record {
        id = id;
        entries = entries;
        leads = leads;
        least = least;
        extents = extents;
        versions = versions;
      },
      g,
    )))))))

-- a level's descriptor, read from the front of bytes
unfoldable pub read_level : List ℕ → Parsed LevelDesc
read_level bytes =
    next (read_number 1 bytes) (λ number b.
    next (read_number 4 b) (λ horizon c.
    next (read_list read_array c) (λ arrays d.
    Some (record { number = number; horizon = horizon; arrays = arrays }, d))))

-- a mark, read from the front of bytes: 1 if the version was dropped
unfoldable pub read_mark : List ℕ → Parsed Bool
read_mark bytes = next (read_number 1 bytes) (λ n b. Some (n == 1, b))

-- what stands in format 2 alone, read from the front of bytes, or its value in format 1
unfoldable pub read_only : {A : Type 0} → ℕ → (List ℕ → Parsed A) → A → List ℕ → Parsed A
read_only format read none bytes = if format == 2 then read bytes else Some (none, bytes)

-- the fields of a manifest in a format, read from the front of bytes
unfoldable pub read_manifest : ℕ → List ℕ → Parsed Manifest
read_manifest format bytes =
    next (read_number 4 bytes) (λ changes b.
    next (read_number 4 b) (λ updates c.
    next (read_number 8 c) (λ written k.
    next (read_only format (read_number 8) 0 k) (λ compacted d.
    next (read_number 8 d) (λ next_array e.
    next (read_number 4 e) (λ versions f.
    next (read_items (read_number 4) (versions - 1) f) (λ parents l.
    next (read_only format (read_items read_mark (suc (length parents)))
    (replicate (suc (length parents)) false) l) (λ marks g.
    next (read_number 1 g) (λ count h.
    next (read_items read_level count h) (λ levels i.
    Some (
      record {
        changes = changes;
        updates = updates;
        written = written;
        compacted = compacted;
        next_array = next_array;
        parents = parents;
        marks = marks;
        levels = levels;
      },
      i,
    )))))))))))

-- the manifest of which these bytes are the spelling in a format
unfoldable pub manifest_in : ℕ → List ℕ → Option Manifest
manifest_in format bytes =
    option_and_then
    (λ read. if is_lawful_manifest format read.0 && bytes_eq bytes (manifest_bytes format read.0)
    then Some read.0 else None) (read_manifest format bytes)
