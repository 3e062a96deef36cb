-- What a tree and a list of entries say of keys at versions.
use Rattle.std.specs.Prelude.{ℕ, List, [], fold, Option, option_and_then}
use Rattle.std.specs.Option.{option_map_or}
use Rattle.std.specs.BTreeMap.{insert_entry}
use Rattle.strat_base.specs.Order.{key_cmp}
use Rattle.strat_base.specs.Tree.{Parents}
use Rattle.strat_base.specs.Entries.{Entry}
use Rattle.def_state.specs.Live.{deciding}

-- the value of a key at a version: the first entry of the nearest version on its path with one
abbrev pub value_over : Parents → List Entry → ℕ → List ℕ → Option (List ℕ)
value_over parents entries v key = option_and_then (λ e. e.value) (deciding parents entries key v)

-- a map with the value of a key at a version, if it has one
abbrev pub with_value : Parents → List Entry → ℕ → List (List ℕ × List ℕ) → List ℕ
    → List (List ℕ × List ℕ)
with_value parents entries v pairs key = option_map_or
    (λ value. insert_entry key_cmp pairs key value)
    (value_over parents entries v key)
    pairs

-- the map of a version: each key that the entries speak of, with its value there
abbrev pub map_over : Parents → List Entry → ℕ → List (List ℕ × List ℕ)
map_over parents entries v = fold (λ pairs e. with_value parents entries v pairs e.key) [] entries
