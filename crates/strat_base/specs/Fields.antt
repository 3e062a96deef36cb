-- Keys and values as fields: a length, and so many bytes.
use Rattle.std.specs.Prelude.{ℕ, ◌+◌, nat_le, ◌&&◌, if◌then◌else◌, List, [], ◌∷◌, ◌++◌, length, take, drop, Option, Some, None}
use Rattle.strat_base.specs.Numbers.{be, number}
pub use Rattle.strat_base.specs.Sizes.{is_key, is_value}

-- a key after its length, in one byte
abbrev pub key_field : List ℕ → List ℕ
key_field key = length key ∷ key

-- a value after its length, in two bytes
abbrev pub value_field : List ℕ → List ℕ
value_field value = be 2 (length value) ++ value

-- the key whose field stands at the front of these bytes
abbrev pub key_in : List ℕ → Option (List ℕ)
key_in [] = None
key_in (n ∷ bytes) =
    if nat_le n (length bytes) && is_key (take n bytes) then Some (take n bytes) else None

-- the value whose field stands at the front of these bytes
abbrev pub value_in : List ℕ → Option (List ℕ)
value_in bytes =
    if nat_le (2 + number 2 bytes) (length bytes) && is_value (take (number 2 bytes) (drop 2 bytes))
    then Some (take (number 2 bytes) (drop 2 bytes)) else None
