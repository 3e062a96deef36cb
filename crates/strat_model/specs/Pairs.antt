-- The map of a version: pairs of key and value, the keys strictly ascending by their bytes.
use Rattle.std.specs.Prelude.{ℕ, Bool, ◌&&◌, List, [], ◌∷◌, Option, filter, not}
use Rattle.std.specs.Ordering.{is_eq, is_lt}
use Rattle.std.specs.Map.{lookup, remove_entry}
use Rattle.std.specs.BTreeMap.{insert_entry}
use Rattle.strat_base.specs.Order.{key_cmp}

-- a key and its value
abbrev pub Pair : Type 0
Pair = List ℕ × List ℕ

-- the map of a version
abbrev pub Pairs : Type 0
Pairs = List Pair

-- the value of a key, if it has one
abbrev pub value_of : Pairs → List ℕ → Option (List ℕ)
value_of pairs key = lookup (λ k. is_eq (key_cmp key k)) pairs

-- the map with this value at a key
abbrev pub set : List ℕ → List ℕ → Pairs → Pairs
set key value pairs = insert_entry key_cmp pairs key value

-- the map without a key
abbrev pub unset : List ℕ → Pairs → Pairs
unset key pairs = remove_entry (λ k. is_eq (key_cmp key k)) pairs

-- a key is at or after lo, and before hi where hi is not empty
abbrev pub is_between : List ℕ → List ℕ → List ℕ → Bool
is_between lo [] key = not (is_lt (key_cmp key lo))
is_between lo (b ∷ hi) key = not (is_lt (key_cmp key lo)) && is_lt (key_cmp key (b ∷ hi))

-- the pairs of a range
abbrev pub range : Pairs → List ℕ → List ℕ → Pairs
range pairs lo hi = filter (λ pair. is_between lo hi pair.0) pairs
