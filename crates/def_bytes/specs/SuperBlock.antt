-- Superblocks: their fields and bytes, and which of the two slots holds the newest.
use Rattle.std.specs.Prelude.{◌≤◌, ◌<◌, ◌==◌, ◌&&◌, ℕ, ◌^◌, nat_lt, nat_le, if◌then◌else◌, Bool, List, [], ◌∷◌, ◌++◌, drop, replicate, slice_index, Option, Some, None, Result, Ok, Err}
use Rattle.def_crash.specs.Image.{Image, window}
use Rattle.strat_base.specs.Numbers.{be, number}
use Rattle.def_bytes.specs.Layout.{open_flag, newest_format, shortest_manifest, first_free}

-- a superblock: its format and generation, the manifest's first block and length in bytes, the
-- active journal region, and the limits of the store
pub record Super : Type 0 where
  pub format : ℕ
  pub generation : ℕ
  pub manifest : ℕ
  pub length : ℕ
  pub region : ℕ
  pub mem : ℕ
  pub changes_max : ℕ
  pub versions_max : ℕ

-- the text STRATBT1, read as a number
abbrev pub magic : ℕ
magic = 0x5354524154425431

-- the limits of a store: changes per journal region, changes in its life, versions
pub record AreLimits (mem changes_max versions_max : ℕ) : Type 0 where
  pub mem_least : 4 ≤ mem
  pub mem_most : mem ≤ 4096
  pub changes_least : 1 ≤ changes_max
  pub changes_most : changes_max ≤ 16777216
  pub versions_least : 1 ≤ versions_max
  pub versions_most : versions_max ≤ 16384

-- the fields are in their ranges: the formats are 1 and 2
pub record IsLawful (sb : Super) : Type 0 where
  pub format_least : 1 ≤ sb.format
  pub format_most : sb.format ≤ newest_format
  pub generation_least : 1 ≤ sb.generation
  pub generation_fits : sb.generation < 2 ^ 64
  pub manifest_least : first_free sb.mem ≤ sb.manifest
  pub manifest_most : sb.manifest < 4294967295
  pub length_least : shortest_manifest sb.format ≤ sb.length
  pub length_fits : sb.length < 2 ^ 32
  pub region_most : sb.region ≤ 1
  pub mem_least : 4 ≤ sb.mem
  pub mem_most : sb.mem ≤ 4096
  pub changes_least : 1 ≤ sb.changes_max
  pub changes_most : sb.changes_max ≤ 16777216
  pub versions_least : 1 ≤ sb.versions_max
  pub versions_most : sb.versions_max ≤ 16384

-- the tests of the fields, for what was read
abbrev pub in_range : Super → Bool
in_range sb = nat_le 1 sb.format && nat_le sb.format newest_format
    && nat_le 1 sb.generation
    && nat_le 4 sb.mem && nat_le sb.mem 4096
    && nat_le (first_free sb.mem) sb.manifest && nat_lt sb.manifest 4294967295
    && nat_le (shortest_manifest sb.format) sb.length
    && nat_le sb.region 1
    && nat_le 1 sb.changes_max && nat_le sb.changes_max 16777216
    && nat_le 1 sb.versions_max && nat_le sb.versions_max 16384

-- n zero bytes
unfoldable pub zeros : ℕ → List ℕ
zeros n = replicate n 0

-- numbers of so many bytes each, one after the other
abbrev pub spelled : List (ℕ × ℕ) → List ℕ
spelled [] = []
spelled (field ∷ fields) = be field.0 field.1 ++ spelled fields

-- the fields of a superblock after its gate, each with its number of bytes
abbrev pub fields : Super → List (ℕ × ℕ)
fields sb =
    (8, magic) ∷ (2, sb.format) ∷ (8, sb.generation) ∷ (4, sb.manifest) ∷ (4, sb.length)
    ∷ (1, sb.region) ∷ (4, sb.mem) ∷ (4, sb.changes_max) ∷ (4, sb.versions_max) ∷ []

-- the bytes of a slot after its gate: the fields, and zeros to the block's end
abbrev pub body : Super → List ℕ
body sb = spelled (fields sb) ++ zeros 4056

-- what the first 40 bytes of a block hold, where the gate is open and the magic stands there
unfoldable pub slot_of : List ℕ → Option Super
slot_of bytes = if slice_index bytes 0 == open_flag && number 8 (drop 1 bytes) == magic
    then Some (record {
      format = number 2 (drop 9 bytes);
      generation = number 8 (drop 11 bytes);
      manifest = number 4 (drop 19 bytes);
      length = number 4 (drop 23 bytes);
      region = number 1 (drop 27 bytes);
      mem = number 4 (drop 28 bytes);
      changes_max = number 4 (drop 32 bytes);
      versions_max = number 4 (drop 36 bytes);
    })
    else None

-- the superblock in the slot that begins here
unfoldable pub slot_in : Image → ℕ → Option Super
slot_in c at = slot_of (window c at 40)

-- of two slots the one that holds a superblock, or the greater generation; the first at a tie
abbrev pub newer : Option Super → Option Super → Option (ℕ × Super)
newer None None = None
newer None (Some t) = Some (1, t)
newer (Some s) None = Some (0, s)
newer (Some s) (Some t) =
    if nat_lt s.generation t.generation then Some (1, t) else Some (0, s)

-- the slot that recovery chooses, with its superblock
abbrev pub chosen_in : Image → Option (ℕ × Super)
chosen_in c = newer (slot_in c 0) (slot_in c 4096)

-- it is good only if its fields are in range; else its block is named
abbrev pub verdict : Option (ℕ × Super) → Result (Option (ℕ × Super)) ℕ
verdict None = Ok None
verdict (Some (n, s)) = if in_range s then Ok (Some (n, s)) else Err n

-- the newest superblock with its slot, nothing where no slot is open with the magic, or the damaged
-- block
abbrev pub newest_in : Image → Result (Option (ℕ × Super)) ℕ
newest_in c = verdict (chosen_in c)
