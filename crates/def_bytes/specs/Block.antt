-- Entries in blocks of arrays.
use Rattle.std.specs.Prelude.{◌≡◌, ℕ, zero, suc, ◌+◌, ◌-◌, ◌*◌, nat_lt, nat_le, ◌&&◌, Bool, if◌then◌else◌, List, [], ◌∷◌, ◌++◌, length, drop, replicate, flat_map, bytes_eq, Option, Some, None, IsTrue, option_map, option_and_then}
use Rattle.std.specs.List.{list_all}
use Rattle.strat_base.specs.declared.limits.TheConstants.{BLOCK}
use Rattle.strat_base.specs.Numbers.{be, number}
use Rattle.strat_base.specs.Entries.{Entry, is_ascending}
use Rattle.strat_base.specs.EntryBytes.{fits_fields, entry_bytes, entry_in}

-- n entries, one after the other from the front of these bytes
unfoldable pub entries_in : ℕ → List ℕ → Option (List Entry)
entries_in zero bytes = Some []
entries_in (suc n) bytes =
    option_and_then
    (λ e. option_map (λ entries. e ∷ entries) (entries_in n (drop (length (entry_bytes e)) bytes)))
    (entry_in bytes)

-- the offsets of entries that stand one after the other from an offset on
abbrev pub offsets : ℕ → List Entry → List ℕ
offsets at [] = []
offsets at (e ∷ entries) = be 2 at ++ offsets (at + length (entry_bytes e)) entries

-- a block as far as its last entry: how many there are, where each begins, and the entries
abbrev pub block_front : List Entry → List ℕ
block_front entries =
    be 2 (length entries)
    ++ (offsets (2 + 2 * length entries) entries ++ flat_map entry_bytes entries)

-- the bytes of a block: zeros fill it
unfoldable pub block_bytes : List Entry → List ℕ
block_bytes entries = block_front entries ++ replicate (BLOCK - length (block_front entries)) 0

-- these entries may be those of a block: there are some, they ascend, and they fit
abbrev pub fits_block : List Entry → Bool
fits_block entries =
    nat_lt 0 (length entries) && list_all fits_fields entries && is_ascending entries
    && nat_le (length (block_front entries)) BLOCK

-- these bytes are the block of these entries
pub record IsBlock (bytes : List ℕ) (entries : List Entry) : Type 0 where
  pub fits : IsTrue (fits_block entries)
  pub text : bytes ≡ block_bytes entries

-- the entries of which these bytes are the block
unfoldable pub block_in : List ℕ → Option (List Entry)
block_in bytes =
    option_and_then
    (λ entries. if fits_block entries && bytes_eq bytes (block_bytes entries)
    then Some entries else None)
    (entries_in (number 2 bytes) (drop (2 + 2 * number 2 bytes) bytes))
