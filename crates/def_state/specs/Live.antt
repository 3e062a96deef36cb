-- Which entries of a set are live at a version.
use Rattle.std.specs.Prelude.{ℕ, nat_lt, ◌&&◌, not, Bool, List, [], ◌∷◌, Option, None, filter, find}
use Rattle.std.specs.List.{list_any}
use Rattle.std.specs.Option.{option_or}
use Rattle.strat_base.specs.Tree.{Parents, path, is_ancestor}
use Rattle.strat_base.specs.Entries.{Entry, is_of, is_at}

-- an entry of the same key stands further down the path to v, where numbers are greater
abbrev pub is_hidden_by : Parents → ℕ → Entry → Entry → Bool
is_hidden_by parents v e other =
    is_of e.key other && nat_lt e.version other.version && is_ancestor parents other.version v

-- an entry is live at v where its version is v or an ancestor, and no entry of its key lies between
abbrev pub is_live : Parents → List Entry → ℕ → Entry → Bool
is_live parents entries v e =
    is_ancestor parents e.version v && not (list_any (is_hidden_by parents v e) entries)

-- the entries of a set that are live at v
abbrev pub live : Parents → List Entry → ℕ → List Entry
live parents entries v = filter (is_live parents entries v) entries

-- the first answer along a path
abbrev pub first_some : (ℕ → Option Entry) → List ℕ → Option Entry
first_some answer [] = None
first_some answer (u ∷ us) = option_or (answer u) (first_some answer us)

-- the entry that decides a key at v: of the nearest version on its path with one, the first of them
abbrev pub deciding : Parents → List Entry → List ℕ → ℕ → Option Entry
deciding parents entries key v = first_some (λ u. find (is_at key u) entries) (path parents v)
