-- Numbers in bytes, the highest byte first, and bytes at an offset.
use Rattle.std.specs.Prelude.{◌<◌, ℕ, ◌+◌, nat_le, if◌then◌else◌, List, ◌++◌, length, take, drop, slice_index, Option, Some, None}
use Rattle.byteorder.specs.Endian.{big_bytes, big_number}

-- the lowest k bytes of n, the highest of them first
unfoldable pub be : ℕ → ℕ → List ℕ
be k n = big_bytes k n

-- the number in the first k bytes
unfoldable pub number : ℕ → List ℕ → ℕ
number k bytes = big_number k bytes

-- the number in the k bytes at an offset, where there are so many
abbrev pub number_at : ℕ → List ℕ → ℕ → Option ℕ
number_at k bytes at =
    if nat_le (at + k) (length bytes) then Some (number k (drop at bytes)) else None

-- these bytes written at an offset, all others as they were
abbrev pub placed : List ℕ → ℕ → List ℕ → List ℕ
placed old at bytes = take at old ++ bytes ++ drop (at + length bytes) old

-- what a slice of bytes holds: numbers below 256
abbrev pub AreBytes : List ℕ → Type 0
AreBytes bytes = (i : ℕ) → slice_index bytes i < 256
