-- Changes of a store, and their bytes in a journal.
use Rattle.std.specs.Prelude.{◌≡◌, ℕ, ◌+◌, ◌^◌, nat_lt, nat_le, ◌==◌, ◌&&◌, Bool, if◌then◌else◌, List, [], ◌∷◌, ◌++◌, length, drop, Option, Some, None, IsTrue, option_map, option_and_then}
use Rattle.strat_base.specs.Numbers.{be, number}
use Rattle.strat_base.specs.Sizes.{is_key, is_value}
use Rattle.strat_base.specs.Fields.{key_field, value_field, key_in, value_in}

-- a change: a key gets a value at a version, or is gone from it, or a version gets a child, or is dropped
pub data Change : Type 0 where
  Put : (version : ℕ) (key value : List ℕ) → Change
  Delete : (version : ℕ) (key : List ℕ) → Change
  Clone : (version : ℕ) → Change
  DropVersion : (version : ℕ) → Change

-- key, value and version of a change fit their fields
abbrev pub is_lawful : Change → Bool
is_lawful (Put version key value) = nat_lt version (2 ^ 32) && (is_key key && is_value value)
is_lawful (Delete version key) = nat_lt version (2 ^ 32) && is_key key
is_lawful (Clone version) = nat_lt version (2 ^ 32)
is_lawful (DropVersion version) = nat_lt version (2 ^ 32)

-- the bytes of a change
abbrev pub change_bytes : Change → List ℕ
change_bytes (Put version key value) = 1 ∷ (be 4 version ++ (key_field key ++ value_field value))
change_bytes (Delete version key) = 2 ∷ (be 4 version ++ key_field key)
change_bytes (Clone version) = 3 ∷ be 4 version
change_bytes (DropVersion version) = 4 ∷ be 4 version

-- the change of a kind and a version whose further fields stand at the front of these bytes
abbrev pub change_of_kind : ℕ → ℕ → List ℕ → Option Change
change_of_kind kind version fields =
    if kind == 1 then
    option_and_then
    (λ key. option_map
    (λ value. Put version key value) (value_in (drop (length (key_field key)) fields)))
    (key_in fields)
    else if kind == 2 then option_map (λ key. Delete version key) (key_in fields)
    else if kind == 3 then Some (Clone version)
    else if kind == 4 then Some (DropVersion version) else None

-- the change whose bytes stand at the front of these
unfoldable pub change_in : List ℕ → Option Change
change_in [] = None
change_in (kind ∷ bytes) =
    if nat_le 4 (length bytes) then change_of_kind kind (number 4 bytes) (drop 4 bytes) else None

-- the change whose bytes stand at an offset, and the offset after them
abbrev pub change_at : List ℕ → ℕ → Option (Change × ℕ)
change_at bytes at = option_map (λ c. (c, at + length (change_bytes c))) (change_in (drop at bytes))

-- these bytes are a lawful change's and then others
pub record BeginsWithChange (bytes : List ℕ) (c : Change) : Type 0 where
  pub lawful : IsTrue (is_lawful c)
  pub rest : List ℕ
  pub split : bytes ≡ change_bytes c ++ rest
