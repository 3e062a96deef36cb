-- Marks that a key is gone are dropped where nothing lies deeper, but for those below a value.
use Rattle.std.specs.Prelude.{ℕ, ◌||◌, Bool, false, List, [], ◌∷◌, filter, map, is_some, option_and_then}
use Rattle.std.specs.Option.{option_map_or}
use Rattle.strat_base.specs.Tree.{Parents, parent_of}
use Rattle.strat_base.specs.Entries.{Entry}
use Rattle.def_state.specs.Live.{deciding}
use Rattle.def_state.specs.Level.{Level}

-- a key has a value at a version
abbrev pub is_valued : Parents → List Entry → List ℕ → ℕ → Bool
is_valued parents entries key v =
    is_some (option_and_then (λ e. e.value) (deciding parents entries key v))

-- an entry says something: it is a value, or its version's parent has one
abbrev pub is_needed : Parents → List Entry → Entry → Bool
is_needed parents entries e =
    is_some e.value
    || option_map_or (λ p. is_valued parents entries e.key p) (parent_of parents e.version) false

-- the entries that say something
abbrev pub purged : Parents → List Entry → List Entry
purged parents entries = filter (is_needed parents entries) entries

-- the entries that are written above these levels
abbrev pub entries_over : Parents → List Level → List Entry → List Entry
entries_over parents [] entries = purged parents entries
entries_over parents (level ∷ kept) entries = entries

-- the same, group by group
abbrev pub groups_over : Parents → List Level → List (List Entry) → List (List Entry)
groups_over parents [] groups = map (purged parents) groups
groups_over parents (level ∷ kept) groups = groups
