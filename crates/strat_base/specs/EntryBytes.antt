-- The bytes of an entry.
use Rattle.std.specs.Prelude.{◌≡◌, ℕ, ◌+◌, ◌^◌, nat_lt, nat_le, ◌==◌, ◌&&◌, Bool, true, if◌then◌else◌, List, [], ◌∷◌, ◌++◌, length, drop, Option, Some, None, IsTrue, option_map, option_and_then}
use Rattle.strat_base.specs.Numbers.{be, number}
use Rattle.strat_base.specs.Sizes.{is_key, is_value}
use Rattle.strat_base.specs.Fields.{key_field, value_field, key_in, value_in}
use Rattle.strat_base.specs.Entries.{Entry}

-- a value that may be, or the mark that there is none
abbrev pub is_markable : Option (List ℕ) → Bool
is_markable None = true
is_markable (Some value) = is_value value

-- key, version and value of an entry fit their fields
abbrev pub fits_fields : Entry → Bool
fits_fields e = is_key e.key && nat_lt e.version (2 ^ 32) && is_markable e.value

-- 0 where the key is gone, or 1 and the value
abbrev pub mark_field : Option (List ℕ) → List ℕ
mark_field None = 0 ∷ []
mark_field (Some value) = 1 ∷ value_field value

-- the bytes of an entry
abbrev pub entry_bytes : Entry → List ℕ
entry_bytes e = key_field e.key ++ (be 4 e.version ++ mark_field e.value)

-- the mark whose field stands at the front of these bytes
abbrev pub mark_in : List ℕ → Option (Option (List ℕ))
mark_in [] = None
mark_in (mark ∷ bytes) =
    if mark == 0 then Some None else
    if mark == 1 then option_map (λ value. Some value) (value_in bytes) else None

-- the entry of a key whose further fields stand at the front of these bytes
abbrev pub entry_of_key : List ℕ → List ℕ → Option Entry
entry_of_key key fields =
    if nat_le 4 (length fields) then
    option_map (λ value. record { key = key; version = number 4 fields; value = value })
    (mark_in (drop 4 fields))
    else None

-- the entry whose bytes stand at the front of these
unfoldable pub entry_in : List ℕ → Option Entry
entry_in bytes =
    option_and_then (λ key. entry_of_key key (drop (length (key_field key)) bytes)) (key_in bytes)

-- the entry whose bytes stand at an offset, and the offset after them
abbrev pub entry_at : List ℕ → ℕ → Option (Entry × ℕ)
entry_at bytes at = option_map (λ e. (e, at + length (entry_bytes e))) (entry_in (drop at bytes))

-- these bytes are those of an entry that fits its fields, and then others
pub record BeginsWithEntry (bytes : List ℕ) (e : Entry) : Type 0 where
  pub lawful : IsTrue (fits_fields e)
  pub rest : List ℕ
  pub split : bytes ≡ entry_bytes e ++ rest
