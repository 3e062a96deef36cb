-- What a caller sees of an arena.
use Rattle.std.specs.Prelude.{ℕ, ◌+◌, List, [], length, sum_by}

-- a key and its value
pub record KeyValue : Type 0 where
  pub key : List ℕ
  pub value : List ℕ

-- the pairs by their slots, and how many pairs and bytes may still be pushed
pub record ArenaView : Type 0 where
  pub pairs : List KeyValue
  pub spare_pairs : ℕ
  pub spare_bytes : ℕ

-- the bytes of a pair
abbrev pub pair_size : KeyValue → ℕ
pair_size p = length p.key + length p.value

-- the bytes of all pairs together
abbrev pub total_size : List KeyValue → ℕ
total_size pairs = sum_by pair_size pairs

-- an arena without pairs and without room
abbrev pub no_arena : ArenaView
no_arena = record { pairs = []; spare_pairs = 0; spare_bytes = 0 }
