-- A filter: bits of which each key that was added has set four.
use Rattle.std.specs.Prelude.{ℕ, ◌+◌, ◌*◌, ◌/◌, ◌%◌, ◌^◌, Bool, true, false, List, [], ◌∷◌, length, replicate, fold, map, bit_xor, slice_index, slice_index_or, slice_set, ◌==◌}
use Rattle.std.specs.Int.{bit_at}
use Rattle.std.specs.List.{list_all, range_with_len}

-- FNV-1a in 64 bits
abbrev pub fnv : List ℕ → ℕ
fnv key = fold (λ hash byte. bit_xor hash byte * 1099511628211 % 2 ^ 64) 14695981039346656037 key

-- the half of a hash that is added first, and the odd one that is added to it again and again
abbrev pub low_half : ℕ → ℕ
low_half hash = hash % 2 ^ 32

abbrev pub step_of : ℕ → ℕ
step_of hash = hash / 2 ^ 32 / 2 * 2 + 1

-- the place of one of a hash's bits among n
abbrev pub place : ℕ → ℕ → ℕ → ℕ
place n hash i = (low_half hash + i * step_of hash) % n

-- the places of a hash's bits among n
abbrev pub bit_places : ℕ → ℕ → List ℕ
bit_places n hash = place n hash 0 ∷ place n hash 1 ∷ place n hash 2 ∷ place n hash 3 ∷ []

-- bits with those of a hash set
abbrev pub with_hash : List Bool → ℕ → List Bool
with_hash bits hash = fold (λ bs at. slice_set bs at true) bits (bit_places (length bits) hash)

-- all bits of a hash are set
abbrev pub has_hash : List Bool → ℕ → Bool
has_hash bits hash = list_all (λ at. slice_index_or bits at false) (bit_places (length bits) hash)

-- a bit of words of 64 bits, the lowest of the first word first
abbrev pub bit_of : List ℕ → ℕ → Bool
bit_of words i = bit_at (slice_index words (i / 64)) (i % 64) == 1

-- all bits of such words
abbrev pub bits_of : List ℕ → List Bool
bits_of words = map (bit_of words) (range_with_len 0 (64 * length words))

-- how many bits a filter has for so many entries: eight each, rounded up to a multiple of 64
abbrev pub bits_for : ℕ → ℕ
bits_for entries = 64 * ((8 * entries + 63) / 64)

-- the bits after these keys were added, of n that were clear
abbrev pub bits_after : ℕ → List (List ℕ) → List Bool
bits_after n keys = fold (λ bits key. with_hash bits (fnv key)) (replicate n false) keys

-- the filter may hold a key
abbrev pub may_hold : List Bool → List ℕ → Bool
may_hold bits key = has_hash bits (fnv key)
